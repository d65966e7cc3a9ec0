pub mod Called
pub mod means
