pub mod Waiting
pub mod Rows
pub mod Stuck
pub mod Passes
pub mod Deadlock
