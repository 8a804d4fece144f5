pub mod Slices
pub mod Words
pub mod Kept
pub mod Tests
pub mod Growth
