-- All that the specs of this crate have: one section over all samples, the two orders of samples and sections, and a frame.
pub mod Sections
pub mod Orders
pub mod Frame
