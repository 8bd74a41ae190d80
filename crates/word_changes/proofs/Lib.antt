pub mod Changing
pub mod Going
pub mod Writing
