pub mod TruthLemmas
pub mod RowLemmas
pub mod PadLemmas
pub mod FoundLemmas
pub mod ProcLemmas
pub mod SafeFound
pub mod FirstFormLemmas
pub mod Weights
