pub mod Points
pub mod Places
pub mod PointView
pub mod Actions
pub mod ActionView
