-- All that the specs of this crate have: text written into a list, the fields of a line, and a text in an array.
pub mod Written
pub mod Fields
pub mod Kept
