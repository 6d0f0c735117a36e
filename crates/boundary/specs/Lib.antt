-- All that the specs of this crate have: what encode and decode promise to a caller in C, and that nothing is lost on the way there.
pub mod Promise
pub mod Crossing
pub mod Flags
pub mod Decoded
