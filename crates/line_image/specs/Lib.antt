pub mod Closed
pub mod Crash
pub mod Trace
pub mod Told
pub mod Memory
