-- UTF-8: the size of a sequence by its first byte, encoding and decoding, and bad sequences.
pub mod Tests
pub mod Size
pub mod Encoding
pub mod Decoding
-- UTF-8, computed on examples.
pub mod Examples
