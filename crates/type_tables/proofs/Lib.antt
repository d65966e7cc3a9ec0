pub mod Bits
pub mod Held
pub mod Places
pub mod Rows
pub mod Seen
