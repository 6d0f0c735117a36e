-- All that the specs of this crate have: what reading promises, and a loop that codes the frames of a buffer.
pub mod Promise
pub mod Frames
