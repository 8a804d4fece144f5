-- The definitions computed on examples.
pub mod Bench
pub mod Worked
pub mod Decisions
pub mod Limits
pub mod Recommendation
