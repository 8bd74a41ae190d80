pub mod Plainly
pub mod Waited
