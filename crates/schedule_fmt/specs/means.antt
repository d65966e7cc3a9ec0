-- What only proofs and private contracts cite. No public clause rests on these.
pub mod Reading
pub mod Computed
pub mod Readers
pub mod Weights
