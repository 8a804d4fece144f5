pub mod Slots
pub mod Keys
pub mod Tree
pub mod Holds
