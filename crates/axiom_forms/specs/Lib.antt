pub mod Literals
pub mod Together
