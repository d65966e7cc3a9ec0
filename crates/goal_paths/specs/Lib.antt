pub mod Paths
pub mod Limits
pub mod Returns
pub mod means
