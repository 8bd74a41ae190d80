pub mod Again
pub mod Passed
pub mod Chosen
pub mod Sets
pub mod Began
pub mod Runs
pub mod Complete
