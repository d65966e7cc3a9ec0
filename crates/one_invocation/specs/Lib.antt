pub mod Trails
pub mod Places
pub mod CameAlong
pub mod Goals
pub mod GoalPlaces
pub mod Facts
pub mod means
pub mod rows
