pub mod Texts
pub mod Schedules
pub mod Views
pub mod Answers
pub mod means
