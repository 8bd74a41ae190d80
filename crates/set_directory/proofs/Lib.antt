pub mod Sorted
pub mod Numbered
pub mod Written
pub mod Roots
pub mod Listed
pub mod Steps
