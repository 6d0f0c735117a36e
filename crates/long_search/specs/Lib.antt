-- All that the specs of this crate have: the sums of the search with the gain code, and the bounds of 4.2.11.
pub mod Search
pub mod Bounds
