-- Worked rows.
pub mod EmptySorts
