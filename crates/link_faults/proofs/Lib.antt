pub mod LinkFaults
pub mod Steps
