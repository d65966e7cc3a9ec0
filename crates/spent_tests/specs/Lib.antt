pub mod Views
pub mod means
