pub mod Utf8
pub mod Entry
pub mod Pool
pub mod Reading
pub mod Descriptor
pub mod Parsing
pub mod Rows
