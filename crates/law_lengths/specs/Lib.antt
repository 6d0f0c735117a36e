-- All that the specs of this crate have: the lengths of the lists of clause 4, of the carried states, of the buffers and of the listing.
pub mod Analysis
pub mod Subframes
pub mod Decoding
pub mod Frames
pub mod Calls
pub mod Listing
