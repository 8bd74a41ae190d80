pub mod Ascending
pub mod FoundAfter
pub mod Numbers
pub mod Placed
pub mod Stores
