pub mod Found
pub mod Meant
