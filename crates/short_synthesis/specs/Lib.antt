-- All that the specs of this crate have: the samples of a stretch in one pass, the lattice on eight cells, and the fast way.
pub mod Speech
pub mod Lattice
pub mod Promise
pub mod Biased
