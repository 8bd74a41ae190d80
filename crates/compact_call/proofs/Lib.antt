pub mod NewStops
pub mod NewImages
pub mod OldImages
pub mod Unhindered
