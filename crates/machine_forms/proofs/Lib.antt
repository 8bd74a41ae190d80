pub mod Happening
pub mod Layouts
pub mod Naming
pub mod Taking
pub mod Passed
