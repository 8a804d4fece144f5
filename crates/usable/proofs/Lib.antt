pub mod TagForms
pub mod Words
pub mod Each
pub mod Facts
pub mod Standing
