pub mod Launches
pub mod Mains
pub mod Refusals
