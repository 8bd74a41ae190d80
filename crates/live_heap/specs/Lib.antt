pub mod Copies
pub mod Marks
pub mod Seen
pub mod Views
