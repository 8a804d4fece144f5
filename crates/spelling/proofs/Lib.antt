pub mod Forms
pub mod Hashes
