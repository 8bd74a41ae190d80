pub mod Closing
pub mod Rules
