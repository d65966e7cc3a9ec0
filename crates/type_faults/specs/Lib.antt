pub mod Walks
pub mod Flows
pub mod Texts
pub mod RightPlaces
