pub mod Chains
pub mod Laws
pub mod Marks
pub mod Notes
pub mod Queues
pub mod Threads
pub mod Work
