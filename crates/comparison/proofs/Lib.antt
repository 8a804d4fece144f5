-- Laws of the comparison.
pub mod Any
pub mod Alike
pub mod Sets
pub mod Meaning
pub mod Examples
pub mod Search
pub mod Partners
pub mod ByKind
pub mod RowKeys
pub mod Parting
pub mod Listing
pub mod Answers
