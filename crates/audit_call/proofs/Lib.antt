pub mod Ending
pub mod Found
pub mod Keeping
pub mod MoreArrays
pub mod Suited
pub mod Unhindered
