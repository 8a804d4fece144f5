-- The automaton of the terminals: its moves by computed tests, and the laws by which a routine follows it.
pub mod Same
pub mod Uniform
pub mod Runs
pub mod Steps
