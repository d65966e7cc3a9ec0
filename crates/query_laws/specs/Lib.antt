pub mod Sight
pub mod Whole
pub mod Told
