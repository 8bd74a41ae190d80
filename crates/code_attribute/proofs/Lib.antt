pub mod Firsts
pub mod Spelled
