pub mod Durables
pub mod Firsts
pub mod Laws
pub mod Strays
