pub mod Lists
pub mod MarkedBranches
pub mod Marking
