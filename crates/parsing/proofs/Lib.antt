pub mod Steps
pub mod Loops
pub mod Numbers
pub mod Fields
pub mod Many
pub mod Options
