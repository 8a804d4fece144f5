pub mod Chains
pub mod Escapes
pub mod Numerals
pub mod Pieces
pub mod RowForms
pub mod Bounds
pub mod Sound
pub mod Answers
