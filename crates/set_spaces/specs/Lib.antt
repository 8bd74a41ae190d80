pub mod Homes
pub mod Names
pub mod Numbering
pub mod Objects
pub mod Over
pub mod Passed
