-- Samples for worked rows.
pub mod Samples
pub mod Worked
