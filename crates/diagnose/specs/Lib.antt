-- What diagnose prints.
pub mod Phrase
pub mod Meaning
