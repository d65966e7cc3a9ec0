pub mod Answers
pub mod means
