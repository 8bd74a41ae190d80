pub mod Audits
pub mod Passed
pub mod Picks
