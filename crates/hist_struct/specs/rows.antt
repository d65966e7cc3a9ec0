-- Worked rows.
pub mod OneRegister
