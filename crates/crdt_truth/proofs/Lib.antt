pub mod OpenViews
pub mod ListValues
pub mod RangeLemmas
pub mod DoneLemmas
