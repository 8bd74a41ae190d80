pub mod FirstHeaps
pub mod Beginning
pub mod Launching
pub mod Passed
