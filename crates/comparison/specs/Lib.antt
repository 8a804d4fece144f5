-- What two editions of one file differ in.
pub mod Comparison
pub mod Partners
pub mod Code
pub mod Answer
