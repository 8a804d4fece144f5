-- Numbers, tags, labels, names and keywords: the states of the automaton on the way through the routines.
pub mod Numbering
pub mod Agreeing
pub mod Tagging
pub mod Parts
pub mod Muting
pub mod Running
pub mod Clearing
pub mod Fronting
