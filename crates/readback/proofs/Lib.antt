-- The long form, read again: printed tokens, how they are cut, and what they stand for.
pub mod Cutting
pub mod Undone
pub mod Printed
pub mod Tags
pub mod Forms
pub mod Values
pub mod Harmless
pub mod Sound
pub mod Lines
pub mod Tables
pub mod ReadBack
pub mod Renaming
-- What was read, written and read again.
pub mod Texts
pub mod Escapes
pub mod Kept
pub mod Rules
pub mod Iris
pub mod Lexed
pub mod Runs
pub mod Laid
pub mod Numbering
pub mod RoundTrip
pub mod HandedOver
-- Examples, computed.
pub mod Examples
