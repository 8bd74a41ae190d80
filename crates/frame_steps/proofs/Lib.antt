pub mod Sizes
pub mod Begun
