-- All that the specs of this crate have: the stages of a sub-frame, put together.
pub mod Whole
