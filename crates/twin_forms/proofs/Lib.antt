pub mod Led
pub mod States
pub mod Frames
pub mod Stores
pub mod Elsewhere
pub mod Ways
pub mod Tables
pub mod Quiet
