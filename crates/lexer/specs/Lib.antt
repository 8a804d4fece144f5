pub mod Blanks
pub mod Marks
pub mod Rest
