pub mod ClaimLaws
pub mod MoveLaws
pub mod StartLaws
