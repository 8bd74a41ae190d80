pub mod FoundMain
pub mod Starting
pub mod Ending
pub mod Judging
