pub mod Complete
pub mod Doing
