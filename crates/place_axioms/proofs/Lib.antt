pub mod BelowLaws
pub mod Denials
pub mod Next
pub mod SpotViews
