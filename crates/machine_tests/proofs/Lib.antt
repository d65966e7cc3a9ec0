pub mod FittingLemmas
pub mod AtomLemmas
pub mod SetLemmas
pub mod StampLemmas
pub mod ClosedLemmas
pub mod IndexLemmas
pub mod RowLemmas
