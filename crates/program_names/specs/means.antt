-- What only proofs and private contracts cite. No public clause rests on these.
pub mod Found
