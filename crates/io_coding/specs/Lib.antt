-- All that the specs of this crate have: what a turn does with the bytes that have come.
pub mod Turn
