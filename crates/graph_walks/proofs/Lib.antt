pub mod Vertices
pub mod Marks
pub mod Lists
pub mod Paths
pub mod Firsts
pub mod Walks
pub mod Walking
