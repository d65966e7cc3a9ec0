pub mod Printed
pub mod Alike
pub mod rows
