-- The lent tables: rows, terms and store; numbering; usable tables, a term's text, what writers answer, and the long form.
pub mod Layout
pub mod Lent
pub mod Tables
pub mod Usable
pub mod TermText
pub mod Written
pub mod LongForm
