-- All that the specs of this crate have: the promises of pack and unpack, the laws of their loops, and that each undoes the other.
pub mod Bits
pub mod Fields
pub mod Layout
pub mod Waiting
pub mod RoundTrip
pub mod Turns
pub mod Promise
pub mod Returns
pub mod Calls
