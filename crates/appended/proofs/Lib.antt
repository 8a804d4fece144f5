-- What an accepted document leaves is the beginning of what is left when text is added behind it.
pub mod Endings
pub mod FirstToken
pub mod Cutting
pub mod Parts
pub mod Words
pub mod Appended
-- Examples, computed.
pub mod Examples
