-- The automaton of the terminals, its run over a text, and code points from 128 on by what names may have of them.
pub mod States
pub mod Levels
pub mod Run
