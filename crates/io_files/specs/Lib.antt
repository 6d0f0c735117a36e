-- All that the specs of this crate have: where the words and the bytes of a file are, and that what is written is read back.
pub mod Words
