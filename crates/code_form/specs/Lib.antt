pub mod Opcodes
pub mod Spelling
pub mod Reading
pub mod Marks
pub mod Rows
