pub mod Refusing
pub mod Numbering
pub mod Labels
pub mod Terms
pub mod Writing
pub mod Leaving
