-- Laws of the tables.
pub mod Numbers
pub mod Held
pub mod Finding
pub mod Store
pub mod Written
-- Tables, computed on examples.
pub mod Examples
