-- Datasets, computed on examples.
pub mod Examples
pub mod Derivations
-- The environment of the tree and that of the tokens agree.
pub mod Latest
