pub mod NewIndices
pub mod Rows
