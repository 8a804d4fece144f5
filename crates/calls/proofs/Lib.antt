-- Theorems about the definition, said of calls.
pub mod Calls
