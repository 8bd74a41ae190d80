pub mod Windows
pub mod Calls
pub mod Moves
pub mod Inserts
