pub mod Left
pub mod Reopening
pub mod Output
pub mod EndsWhole
