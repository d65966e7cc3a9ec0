-- Small programs, and the names of their goals.
pub mod Programs
pub mod Names
