mod Durables
mod Flags
pub mod Following
mod Strays
