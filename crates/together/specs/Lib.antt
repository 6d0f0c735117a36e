-- All that the specs of this program have: how it counts frames.
pub mod Count
