pub mod Escapes
pub mod Quotes
pub mod Stops
