pub mod Tests
pub mod Addresses
