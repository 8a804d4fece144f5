pub mod Moving
pub mod Passing
pub mod Slots
pub mod Predicates
