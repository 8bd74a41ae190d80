pub mod Passed
pub mod Promises
pub mod Complete
