pub mod Lefts
pub mod Slots
