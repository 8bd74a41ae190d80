pub mod Planning
pub mod Writing
pub mod Outcomes
