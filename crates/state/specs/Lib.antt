pub mod Words
pub mod Cursor
pub mod Represents
pub mod Writes
pub mod Supplies
