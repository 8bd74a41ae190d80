mod Apart
mod Guarded
mod Holders
mod Lines
mod Machines
mod Spots
pub mod Passed
