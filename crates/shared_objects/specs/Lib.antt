pub mod Changes
pub mod Plain
pub mod Shown
pub mod Threads
pub mod Worlds
