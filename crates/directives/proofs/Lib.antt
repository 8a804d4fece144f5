pub mod Refusing
pub mod Stepping
pub mod Calling
pub mod Parts
