pub mod Beginnings
pub mod Throws
pub mod Sized
pub mod Gives
