-- All that the specs of this crate have: what the state stands for, the test of it, the two parts of L_z2, and an iteration of the loop.
pub mod Promise
pub mod Soundness
pub mod Parts
pub mod Turn
