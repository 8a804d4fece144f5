-- A document cut before a bad sequence, what is answered at a place, the answers one after the other, and examples.
pub mod Cut
pub mod Answers
pub mod Sequence
pub mod Examples
