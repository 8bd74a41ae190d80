pub mod Again
pub mod Arrays
pub mod Attached
pub mod Fitted
pub mod Found
pub mod Opened
pub mod Unopened
pub mod Passed
