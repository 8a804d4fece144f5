pub mod Asks
pub mod Among
pub mod Counting
pub mod Bounds
pub mod Tests
pub mod Refusing
