pub mod Arguments
pub mod Waits
pub mod Replies
pub mod Turning
pub mod Ahead
