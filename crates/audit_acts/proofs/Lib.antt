pub mod Judging
pub mod Pushing
