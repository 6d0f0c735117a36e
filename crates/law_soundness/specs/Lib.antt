-- All that the specs of this crate have: the offset filter from a sound state, and that sound states stay sound.
pub mod Ranges
pub mod Decay
pub mod Offset
pub mod States
