pub mod Openings
pub mod Playing
