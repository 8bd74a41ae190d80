pub mod Laws
pub mod Moving
pub mod Quiet
pub mod Seen
pub mod Starts
pub mod Whole
