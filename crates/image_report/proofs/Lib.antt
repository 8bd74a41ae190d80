pub mod Putting
pub mod Reporting
