-- Grammars in EBNF, derivations, and the productions of TriG and Turtle.
pub mod Ebnf
pub mod Productions
pub mod Meaning
