-- All that the specs of this crate have: what decode and decode_alaw promise, the laws of 4.3 as a whole, and what follows for any outcome.
pub mod Promise
pub mod Whole
pub mod Calls
