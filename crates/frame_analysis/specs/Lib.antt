-- All that the specs of this crate have: the stages of a frame's analysis, put together.
pub mod Whole
