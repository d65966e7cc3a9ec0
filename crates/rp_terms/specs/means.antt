pub mod Built
pub mod Hash
pub mod Latest
pub mod Links
pub mod TermCodes
