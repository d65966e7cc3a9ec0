pub mod Later
pub mod Meanings
pub mod Noted
pub mod Words
