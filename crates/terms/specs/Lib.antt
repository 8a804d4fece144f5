pub mod Sorts
pub mod Code
pub mod Keeps
