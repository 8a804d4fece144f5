-- The prefixes and the base in force.
pub mod Environment
pub mod Code
