-- All that the specs of this crate have: the weighting filter, the energies of the grids, and the bounds of both sums.
pub mod Filter
pub mod Energy
pub mod Bounds
