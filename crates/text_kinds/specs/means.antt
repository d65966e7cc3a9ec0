pub mod Brought
pub mod Rows
pub mod Walked
