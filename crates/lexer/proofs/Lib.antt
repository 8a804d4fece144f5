-- Blanks, the first byte of a token, and cutting a document.
pub mod Blanking
pub mod Beginning
pub mod Cutting
pub mod Examples
