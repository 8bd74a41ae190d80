pub mod Behind
pub mod Calls
pub mod Known
pub mod Tied
pub mod Watched
