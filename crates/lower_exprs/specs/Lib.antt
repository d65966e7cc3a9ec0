pub mod Making
pub mod Sound
