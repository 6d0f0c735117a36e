-- All that the specs of this crate have: the four stretches, the bound of a coefficient, and the piecewise line as the least of three.
pub mod Stretches
pub mod Bounds
pub mod Least
