pub mod Locking
pub mod Resting
pub mod Running
pub mod Worldly
