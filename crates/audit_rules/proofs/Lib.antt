pub mod Acts
pub mod Closed
pub mod Closing
pub mod Regions
pub mod Tests
pub mod There
pub mod Wishing
