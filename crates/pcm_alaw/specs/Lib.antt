-- All that the specs of this crate have: the rules as the code has them, and what holds of every code and value.
pub mod Rules
pub mod Facts
