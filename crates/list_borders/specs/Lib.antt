-- All that the specs of this crate have: the header and the E line, as text.
pub mod Borders
