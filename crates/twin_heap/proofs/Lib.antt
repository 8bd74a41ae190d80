pub mod Reading
pub mod Storing
pub mod Filling
pub mod Moving
pub mod Adding
pub mod Opens
