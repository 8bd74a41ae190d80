pub mod Causes
pub mod HeldPieces
pub mod Pieces
pub mod References
pub mod Sinks
pub mod Sources
