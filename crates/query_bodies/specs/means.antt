pub mod Measuring
pub mod Putting
