pub mod Bounded
pub mod NextWithin
