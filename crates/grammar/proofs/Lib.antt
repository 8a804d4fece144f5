-- The theory of a grammar in EBNF, and its theorems at TriG and Turtle.
pub mod KindTrees
pub mod Recogniser
pub mod KindSets
pub mod Tests
pub mod Trees
pub mod Steps
pub mod Verdict
pub mod Unique
pub mod Equal
pub mod Onto
pub mod Nonterminals
pub mod Modes
pub mod Labels
pub mod Grammar
pub mod Examples
