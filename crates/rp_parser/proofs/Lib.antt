pub mod Steps
pub mod Rests
pub mod Moves
pub mod Lists
pub mod Chains
pub mod Spans
pub mod Readable
pub mod Whole
