-- All that the specs of this crate have: laws on lists, a file for each kind of loop, and lists that are cut, joined or tested.
pub mod Fill
pub mod Scan
pub mod Tab
pub mod Steps
pub mod First
pub mod Best
pub mod Parts
pub mod Every
pub mod Cut
pub mod Lengths
pub mod For
pub mod Made
