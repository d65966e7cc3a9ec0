-- Samples, and variants of them, for worked rows.
pub mod Samples
pub mod Variants
