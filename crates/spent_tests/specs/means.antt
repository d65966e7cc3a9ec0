-- What only proofs and the contracts of private functions cite.
pub mod Among
pub mod NamedRanks
pub mod Parts
