pub mod Becomes
pub mod Follows
pub mod Needs
