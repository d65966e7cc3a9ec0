pub mod means
pub mod Spots
