-- A text added behind an accepted document.
pub mod Appended
pub mod Parts
