-- All that the specs of this crate have: laws of the operations of 4.1, of their ranges, and of sums that do not saturate.
pub mod Clip
pub mod Shift
pub mod Product
pub mod Div
pub mod Norm
pub mod Sum
pub mod Within
