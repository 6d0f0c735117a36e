-- All that the specs of this crate have: the three demands, that they can be met, and that useless versions do not meet them.
pub mod Agree
pub mod Holds
pub mod Together
pub mod Demands
pub mod Soundly
pub mod Outcomes
pub mod Crossing
pub mod Example
pub mod Useless
