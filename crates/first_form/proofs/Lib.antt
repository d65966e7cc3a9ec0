pub mod Bare
pub mod Parts
