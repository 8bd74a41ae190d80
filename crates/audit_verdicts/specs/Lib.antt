pub mod Picked
pub mod Verdicts
