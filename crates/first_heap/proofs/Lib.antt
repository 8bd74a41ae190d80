pub mod Classes
pub mod Lists
pub mod Named
pub mod Located
pub mod Reaching
pub mod Starting
