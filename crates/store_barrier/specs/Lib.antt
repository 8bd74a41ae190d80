pub mod Barriers
pub mod Laws
pub mod Regions
pub mod Passed
