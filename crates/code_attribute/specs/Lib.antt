pub mod Operands
pub mod Code
