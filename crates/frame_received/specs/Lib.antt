-- All that the specs of this crate have: what is received, the steps of a sub-frame, and the history over the four sub-frames.
pub mod Received
pub mod Turn
pub mod Sub
pub mod Frame
