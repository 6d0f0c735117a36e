-- All that the specs of this crate have: each codeword fits its field, the decoder reads what the coder writes, and what a mark says.
pub mod Fit
pub mod Ratios
pub mod Gains
pub mod Marks
pub mod Amplitudes
pub mod Pulses
pub mod Fields
pub mod Valid
pub mod Samples
