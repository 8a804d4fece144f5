pub mod OfMarks
pub mod OfLabels
pub mod Behind
pub mod OfBlocks
pub mod OfGraphs
pub mod OfTriples
pub mod OfDocuments
pub mod OfNames
