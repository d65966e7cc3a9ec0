-- What only proofs cite.
pub mod Counts
