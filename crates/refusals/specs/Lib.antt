-- All that the specs of this crate have: the numbers of the refusals.
pub mod Numbers
