pub mod KnownLemmas
pub mod ReturnLemmas
