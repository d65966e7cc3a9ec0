pub mod LocalLemmas
pub mod SlotLemmas
pub mod ArmLemmas
pub mod PartLemmas
