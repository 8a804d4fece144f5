-- The number of a check that refuses.
pub mod Checks
