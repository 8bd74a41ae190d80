pub mod Table
pub mod Sights
pub mod Moves
