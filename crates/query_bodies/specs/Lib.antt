pub mod Terms
pub mod Views
pub mod Expanded
pub mod Expanding
pub mod Measures
pub mod Seen
pub mod means
