-- IRIREF and strings: the states of the automaton on the way through the routines.
pub mod Escaping
pub mod Iris
pub mod Quoting
