pub mod Noting
pub mod Writing
pub mod Whole
pub mod Heads
