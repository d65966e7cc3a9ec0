pub mod Counts
pub mod Files
pub mod Sinks
pub mod MemFiles
pub mod MemSinks
