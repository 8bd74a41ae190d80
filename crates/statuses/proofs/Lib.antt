pub mod Shortened
pub mod Behind
pub mod Entries
pub mod Ranges
pub mod Whole
