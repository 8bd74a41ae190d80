pub mod Attached
pub mod Laws
pub mod Memory
pub mod Moments
pub mod Steps
pub mod StopSet
