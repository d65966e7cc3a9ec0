pub mod Transitive
pub mod means
