pub mod Calls
pub mod Entries
pub mod Holding
pub mod Publishing
pub mod Ties
pub mod Watching
