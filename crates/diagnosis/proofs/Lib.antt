pub mod Trials
pub mod Meaning
pub mod Examples
