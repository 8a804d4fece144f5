-- Escapes (TriG, section 4.4).
pub mod Escape
pub mod Code
