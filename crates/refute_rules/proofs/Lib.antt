pub mod Added
pub mod Cases
pub mod Lists
pub mod Sides
