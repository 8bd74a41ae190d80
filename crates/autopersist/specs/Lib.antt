pub mod Passed
pub mod Asked
pub mod Outside
pub mod Reports
pub mod Runs
pub mod Meets
pub mod Complete
