pub mod Stops
pub mod Chain
pub mod Residence
pub mod StopSets
pub mod Reached
pub mod Keeps
