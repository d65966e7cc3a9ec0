pub mod AskedLemmas
pub mod BelowLemmas
pub mod BelowLonger
pub mod GotLemmas
pub mod NewestLemmas
pub mod QueryLonger
pub mod SameLemmas
