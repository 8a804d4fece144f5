pub mod Between
pub mod Bases
pub mod Refused
pub mod Buffers
pub mod Answers
pub mod Directives
pub mod Begins
