pub mod Objects
pub mod Places
pub mod Roots
pub mod Values
