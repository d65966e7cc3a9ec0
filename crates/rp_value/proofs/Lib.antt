pub mod ValueBack
pub mod ValueViews
