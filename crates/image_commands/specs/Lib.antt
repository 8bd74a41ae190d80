pub mod Asked
pub mod Compacts
pub mod Audits
pub mod Complete
