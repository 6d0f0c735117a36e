-- All lemmas of this crate: the machine's shifts.
pub mod Machine
