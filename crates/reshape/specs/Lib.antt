pub mod Determining
pub mod Eliminating
pub mod Joined
pub mod rows
