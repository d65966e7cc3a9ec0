mod Exact
mod Named
mod Spelled
