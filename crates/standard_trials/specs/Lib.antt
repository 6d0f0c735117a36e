-- All that the specs of this crate have: frames of the vectors and made-up frames, computed by the definitions.
pub mod Encoding
pub mod Made
pub mod Decoding
pub mod Packing
pub mod Listing
pub mod Idle
