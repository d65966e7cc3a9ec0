-- What only proofs and private contracts cite.
pub mod Orders
pub mod Guards
pub mod Signs
