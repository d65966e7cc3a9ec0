pub mod Claims
pub mod Moves
pub mod Given
pub mod Holding
