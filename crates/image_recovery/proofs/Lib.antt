pub mod Causes
pub mod PutSteps
pub mod Stops
pub mod Checks
pub mod Directories
pub mod Recovers
