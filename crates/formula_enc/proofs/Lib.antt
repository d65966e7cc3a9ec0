pub mod Arms
pub mod BoundsViews
pub mod SignLaws
pub mod TermLists
