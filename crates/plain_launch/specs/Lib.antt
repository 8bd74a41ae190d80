pub mod Launches
pub mod Objects
pub mod Roots
pub mod Values
