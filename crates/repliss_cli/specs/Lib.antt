pub mod Words
pub mod Texts
pub mod ProgramText
pub mod FirstText
pub mod Refusals
pub mod Replays
pub mod Answers
pub mod means
