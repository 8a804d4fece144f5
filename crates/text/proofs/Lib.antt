-- Laws that more than one crate cites.
pub mod Booleans
pub mod Compare
pub mod Order
pub mod Library
pub mod Over
pub mod Words
pub mod Zeros
pub mod Table
pub mod Runs
