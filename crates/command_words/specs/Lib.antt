pub mod Asked
pub mod Clap
pub mod Commands
pub mod Numbers
pub mod Rows
