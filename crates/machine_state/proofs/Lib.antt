pub mod StateLemmas
pub mod PointLemmas
pub mod FitsLemmas
pub mod RefusalLemmas
