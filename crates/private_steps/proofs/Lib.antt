pub mod Parameters
pub mod Waiting
pub mod Turning
pub mod Called
pub mod Replied
pub mod Whole
pub mod Ahead
