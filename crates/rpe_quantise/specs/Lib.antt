-- The laws of 4.2.15: bits, exponents, doublings, shifts, pulse codes; and that the promise of exp_and_mant decides its result.
pub mod Exponent
pub mod Counts
pub mod Doubling
pub mod Pulse
pub mod Shifts
pub mod Promise
pub mod Bits
