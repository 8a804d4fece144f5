-- The index of subjects that lies beside a file.
pub mod Index
pub mod About
pub mod Code
