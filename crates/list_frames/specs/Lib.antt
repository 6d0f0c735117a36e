-- All that the specs of this crate have: what listed promises, that the calls give the whole listing, useless versions of the calls.
pub mod Promise
pub mod Whole
pub mod Useless
