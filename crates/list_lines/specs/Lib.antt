-- All that the specs of this crate have: the lines of a frame, as text.
pub mod Lines
pub mod Told
