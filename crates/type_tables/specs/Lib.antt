pub mod Tables
pub mod Flags
pub mod Variables
pub mod Counts
pub mod Marks
