-- Worked rows.
pub mod AddWins
pub mod Forms
pub mod Shapes
