pub mod Tested
pub mod Adds
