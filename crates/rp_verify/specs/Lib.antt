pub mod Verdicts
pub mod means
