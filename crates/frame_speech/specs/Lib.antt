-- All that the specs of this crate have: a frame as four stretches.
pub mod Four
