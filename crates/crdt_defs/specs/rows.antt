-- Samples for worked rows.
pub mod Rows
pub mod TruthRows
