-- All that the specs of this crate have: sums of products and squares that do not saturate, their loops, and the search for the best sum.
pub mod Room
pub mod Squares
pub mod Along
pub mod Search
pub mod Split
