pub mod Readings
pub mod Open
pub mod Meanings
pub mod Within
pub mod Breadths
pub mod means
