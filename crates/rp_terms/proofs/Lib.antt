pub mod BankLaws
pub mod GrownLaws
pub mod HashLaws
pub mod LinkLaws
pub mod NodeLaws
pub mod Places
pub mod SearchLaws
