pub mod Rules
pub mod OfTerms
pub mod OfBrackets
pub mod OfLists
pub mod OfPredicates
