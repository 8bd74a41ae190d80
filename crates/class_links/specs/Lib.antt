pub mod Names
pub mod Links
pub mod Found
pub mod Kept
pub mod Rules
