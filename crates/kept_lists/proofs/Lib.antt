pub mod Doing
pub mod Fits
pub mod Marking
