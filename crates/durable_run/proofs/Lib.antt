mod Going
mod Noting
mod Passing
mod Pausing
mod Places
mod Raising
mod Reading
mod Stepping
mod Throwing
mod Thrown
mod Turns
pub mod Ending
pub mod FramesApart
pub mod Passed
pub mod Sharing
pub mod Sparing
pub mod Stretching
pub mod Telling
