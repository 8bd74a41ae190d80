pub mod Answers
pub mod Asking
pub mod Cells
mod Facts
pub mod Frames
mod Going
mod Items
mod Kept
pub mod Later
mod Machines
mod Making
mod Moving
mod Named
pub mod Progressing
pub mod References
pub mod Runs
pub mod Small
pub mod SmallRun
pub mod Stepping
pub mod Turns
