pub mod Checked
pub mod Walks
