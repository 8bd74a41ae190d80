pub mod Moves
pub mod Past
pub mod Taken
