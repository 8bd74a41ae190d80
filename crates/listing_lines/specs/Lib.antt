pub mod Words
pub mod Numbers
pub mod Texts
pub mod Mnemonics
pub mod Reading
pub mod Instructions
pub mod Lines
pub mod Rows
