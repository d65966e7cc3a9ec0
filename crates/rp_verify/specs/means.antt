pub mod Left
pub mod Found
pub mod Counted
pub mod Followed
pub mod Rows
