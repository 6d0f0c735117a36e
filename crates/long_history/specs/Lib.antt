-- All that the specs of this crate have: the history and what is added to it in one list.
pub mod Window
