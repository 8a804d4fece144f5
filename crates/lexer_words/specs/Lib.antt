pub mod Agree
pub mod Ahead
pub mod Front
pub mod Locals
pub mod Runs
