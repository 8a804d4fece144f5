pub mod Reader
pub mod Stages
