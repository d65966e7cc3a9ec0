-- Samples and worked rows.
pub mod SearchTrees
