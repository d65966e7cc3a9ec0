pub mod Events
mod LimitLemmas
mod ReadLemmas
pub mod Walks
