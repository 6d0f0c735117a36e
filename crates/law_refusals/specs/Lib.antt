-- All that the specs of this crate have: what a refusal number says of the rows (Rows), and of each call (Calls).
pub mod Rows
pub mod Calls
