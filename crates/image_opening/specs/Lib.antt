pub mod Attached
pub mod Opened
pub mod Stops
pub mod Unopened
