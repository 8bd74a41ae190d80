pub mod Paths
pub mod Circles
pub mod Order
pub mod Reached
