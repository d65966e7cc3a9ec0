pub mod means
pub mod Settings
