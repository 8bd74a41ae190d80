pub mod Beginnings
pub mod Worlds
