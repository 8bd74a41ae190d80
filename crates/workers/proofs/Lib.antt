mod Filling
mod Frames
mod Knowing
mod Seating
mod Sparing
mod Stepping
pub mod Passed
