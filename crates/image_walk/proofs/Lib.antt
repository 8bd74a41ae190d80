pub mod Looking
pub mod Checking
pub mod Placing
pub mod Walks
pub mod Taking
pub mod Reading
pub mod Visits
pub mod Names
