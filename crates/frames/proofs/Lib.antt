pub mod Cells
pub mod Families
pub mod Moved
pub mod Calls
pub mod Turns
pub mod Whole
