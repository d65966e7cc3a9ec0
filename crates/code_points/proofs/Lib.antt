pub mod Weights
pub mod PointLaws
pub mod ActionLaws
pub mod PlaceLaws
