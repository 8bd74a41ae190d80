pub mod Graphs
pub mod Written
pub mod Laws
