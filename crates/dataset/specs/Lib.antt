-- RDF datasets: terms and quads, what tokens stand for, and the statements that a derivation constructs.
pub mod Terms
pub mod Constructors
pub mod Statements
pub mod Latest
