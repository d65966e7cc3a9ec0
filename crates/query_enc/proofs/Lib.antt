pub mod Joins
pub mod Questions
pub mod Stays
pub mod TermLists
pub mod WayViews
