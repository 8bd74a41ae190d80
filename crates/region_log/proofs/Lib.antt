mod Ending
pub mod Fencing
pub mod Frames
mod Guarded
pub mod Left
pub mod Others
pub mod Placed
mod Puts
pub mod Regions
pub mod Said
mod Stepping
