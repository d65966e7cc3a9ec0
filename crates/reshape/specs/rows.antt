-- Worked rows.
pub mod Eliminations
