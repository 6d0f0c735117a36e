-- All that the specs of this crate have: what encode promises, the laws that its proofs use, and what follows for any outcome.
pub mod Promise
pub mod Subframes
pub mod Whole
pub mod Calls
