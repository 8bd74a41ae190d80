pub mod Arrays
pub mod Fields
pub mod Places
pub mod Makes
pub mod Stored
pub mod Tested
