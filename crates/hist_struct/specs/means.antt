-- What only proofs cite.
pub mod Fitting
