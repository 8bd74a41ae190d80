pub mod Waiting
pub mod Rows
pub mod Full
pub mod Stuck
pub mod Passes
pub mod Deadlock
