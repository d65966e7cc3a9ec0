-- Samples and worked rows.
pub mod SmallTrees
