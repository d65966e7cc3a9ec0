pub mod Numbers
pub mod rows
pub mod Signatures
