pub mod Names
pub mod Files
pub mod Reading
pub mod Accepted
