pub mod Slots
pub mod Trees
pub mod Indexes
