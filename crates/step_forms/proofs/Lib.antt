pub mod Becoming
pub mod Going
pub mod Kept
pub mod Making
pub mod Ways
