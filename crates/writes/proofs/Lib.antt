pub mod Compose
pub mod Held
pub mod Sharing
pub mod Rows
pub mod Places
pub mod Nodes
