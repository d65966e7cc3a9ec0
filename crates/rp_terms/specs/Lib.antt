pub mod Numbered
pub mod Symbols
pub mod means
