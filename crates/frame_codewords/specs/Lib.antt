-- All that the specs of this crate have: the widths of the fields, the low bits of a codeword, the loop that tests codewords.
pub mod Widths
pub mod Bits
pub mod Masked
pub mod Fitting
