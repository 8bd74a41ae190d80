pub mod BreadthFirst
pub mod Canon
pub mod Found
pub mod Heaps
pub mod Reach
pub mod Rows
