pub mod Own
pub mod Window
pub mod Numbers
pub mod Families
pub mod Rows
