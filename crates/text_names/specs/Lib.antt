pub mod Codes
pub mod Cons
pub mod Declarations
pub mod Indexed
pub mod Parts
pub mod Views
