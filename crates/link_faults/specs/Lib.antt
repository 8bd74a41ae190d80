pub mod LinkFaults
