pub mod means
pub mod TestView
pub mod WayView
