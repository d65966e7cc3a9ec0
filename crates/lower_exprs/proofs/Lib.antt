pub mod Fit
pub mod Notes
pub mod Tested
