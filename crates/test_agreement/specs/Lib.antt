-- All that the specs of this crate have: codewords with bits set beside their fields.
pub mod Stray
