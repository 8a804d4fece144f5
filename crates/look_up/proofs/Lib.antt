pub mod Records
pub mod Stops
pub mod OldLimit
pub mod Examples
