pub mod Args
pub mod Bodies
pub mod Forms
pub mod Reads
