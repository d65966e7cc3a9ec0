pub mod StateView
pub mod StepView
pub mod Fits
pub mod Accessors
pub mod Spots
pub mod means
