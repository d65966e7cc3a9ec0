pub mod Meanings
pub mod Members
pub mod Views
