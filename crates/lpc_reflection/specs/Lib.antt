-- All that the specs of this crate have: what the code's ending stands for, and how far the recursion is.
pub mod Promise
pub mod Along
