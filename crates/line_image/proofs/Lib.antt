pub mod Effects
pub mod Moments
pub mod Versions
pub mod Generator
