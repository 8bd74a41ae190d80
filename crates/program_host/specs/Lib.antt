pub mod Hosts
pub mod Literals
pub mod Numbers
pub mod Settings
pub mod Steps
