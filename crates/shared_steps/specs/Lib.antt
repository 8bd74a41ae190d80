pub mod Giving
pub mod Lasting
pub mod Output
