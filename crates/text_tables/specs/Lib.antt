pub mod Called
pub mod Seen
pub mod means
