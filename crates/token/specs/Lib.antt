-- Tokens: their kinds, the terminals of the Recommendation, longest match, and cutting a document.
pub mod Kind
pub mod Regular
pub mod Terminals
pub mod Tokens
