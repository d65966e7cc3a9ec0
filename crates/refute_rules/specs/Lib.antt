pub mod Added
pub mod means
