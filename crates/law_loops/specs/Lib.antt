-- All that the specs of this crate have: the standard's own loops, written as it has them, and that they give what the definitions say.
pub mod Sums
pub mod Positions
pub mod Searches
pub mod Quantization
pub mod Indices
pub mod Filters
pub mod Recursion
pub mod Ending
pub mod Calls
