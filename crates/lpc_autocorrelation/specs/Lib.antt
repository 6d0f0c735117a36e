-- All that the specs of this crate have: the scale, the bounds of the nine sums, the energy, the sums in blocks, and the change in place.
pub mod Energy
pub mod Scale
pub mod Bounds
pub mod Blocks
pub mod InPlace
