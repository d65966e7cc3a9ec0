pub mod Clauses
pub mod Fillings
pub mod Occurring
pub mod Shapes
pub mod rows
