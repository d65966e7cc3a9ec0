pub mod UsesViews
