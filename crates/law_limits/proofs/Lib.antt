-- The theorems of this crate that rest on other theorems of it: the six sums over a whole frame.
pub mod Whole
