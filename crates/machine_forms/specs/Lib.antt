pub mod Events
pub mod Keeping
pub mod Machines
pub mod Naming
pub mod Happening
pub mod Passed
