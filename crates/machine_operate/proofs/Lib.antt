pub mod OperateLemmas
