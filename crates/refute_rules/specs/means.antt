-- What only proofs and the contracts of private functions cite.
pub mod Conclusions
pub mod Made
pub mod Replaced
