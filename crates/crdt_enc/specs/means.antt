-- What only proofs cite.
pub mod Counting
