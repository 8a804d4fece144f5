-- Sets of bytes, runs of them, and the code points of names: what the routines show, and what the automaton does over them.
pub mod Sets
pub mod Spans
pub mod Points
