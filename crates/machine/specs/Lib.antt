pub mod Ended
pub mod Events
pub mod Halts
pub mod Laws
pub mod Running
pub mod Passed
pub mod Remembering
pub mod Work
