-- All that the specs of this program have: what it does with an octet, and with all of them.
pub mod Octets
