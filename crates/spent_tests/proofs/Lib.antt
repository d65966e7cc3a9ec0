pub mod Listed
pub mod Listings
pub mod NamedRanks
pub mod NamedTerms
pub mod SameLists
pub mod Waits
