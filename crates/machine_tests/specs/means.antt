pub mod Causes
pub mod Indexed
