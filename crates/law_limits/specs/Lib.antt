-- All that the specs of this crate have: the six sums and the left shifts over a whole frame, and the words and sizes that they rest on.
pub mod Signals
pub mod Words
pub mod Sizes
pub mod Steps
pub mod Sums
pub mod Exact
pub mod Inverse
pub mod Shifts
pub mod Received
