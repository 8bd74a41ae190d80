pub mod Entries
pub mod Hands
pub mod Passes
pub mod Rules
pub mod Views
