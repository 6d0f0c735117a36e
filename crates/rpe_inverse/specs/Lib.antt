-- The laws of 4.2.16: what a pulse is, and its left shifts.
pub mod Inverse
pub mod Shifts
