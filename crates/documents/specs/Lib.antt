pub mod Places
pub mod Choice
pub mod Code
