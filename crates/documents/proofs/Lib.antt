pub mod Lines
pub mod Endings
pub mod Examples
