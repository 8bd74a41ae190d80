pub mod Claiming
pub mod Keeping
pub mod Plain
pub mod Stuck
pub mod Testing
pub mod Passed
pub mod Happening
pub mod RegionEvents
