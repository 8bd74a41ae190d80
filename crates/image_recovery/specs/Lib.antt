pub mod Checked
pub mod Putting
pub mod Recovered
pub mod Recoveries
