pub mod ViewLemmas
pub mod KeptLemmas
pub mod CodeLemmas
pub mod EffectLemmas
pub mod StepLemmas
