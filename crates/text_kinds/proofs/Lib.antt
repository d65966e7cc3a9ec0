pub mod Bare
pub mod BroughtLaw
pub mod EachOnce
pub mod KindsAdded
pub mod NumbersFound
pub mod PartsBefore
pub mod RowsKept
pub mod Walks
