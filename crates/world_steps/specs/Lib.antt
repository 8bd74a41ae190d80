pub mod Printing
pub mod Rests
