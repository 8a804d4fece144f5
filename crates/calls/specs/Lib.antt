-- What a call leaves.
pub mod Calls
