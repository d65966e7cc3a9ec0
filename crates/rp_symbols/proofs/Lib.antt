pub mod LookUps
pub mod Stand
pub mod StandToo
