pub mod Launching
pub mod NoLaunches
pub mod NoMains
pub mod Passed
pub mod Unopenings
