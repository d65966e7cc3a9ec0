pub mod ClauseLaws
pub mod ClauseViews
pub mod FillViews
pub mod ShapeLaws
pub mod WalkViews
pub mod WithoutLaws
