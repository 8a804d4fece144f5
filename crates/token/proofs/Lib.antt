-- Laws of tokens.
pub mod KindCodes
pub mod Longest
pub mod Examples
-- The longest match, and the sizes of code points.
pub mod Sizes
-- The clauses of cutting.
pub mod Cutting
