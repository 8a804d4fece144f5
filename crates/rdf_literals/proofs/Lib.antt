pub mod Quotes
pub mod Strings
pub mod Adding
pub mod Fitting
pub mod Whole
