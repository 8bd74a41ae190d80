pub mod Causes
pub mod Fenced
pub mod Finding
pub mod Opened
pub mod Stops
