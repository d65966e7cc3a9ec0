-- Samples for worked rows.
pub mod Rows
