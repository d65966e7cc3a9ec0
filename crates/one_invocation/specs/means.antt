-- What only proofs cite.
pub mod Descending
