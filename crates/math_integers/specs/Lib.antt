-- All that the specs of this crate have: an integer as two natural numbers, sums and products of integers, ranges of results, and
-- needs answered as one.
pub mod Halves
pub mod Sums
pub mod Ranges
pub mod Needs
