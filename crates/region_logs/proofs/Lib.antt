mod Parts
pub mod Guards
pub mod Tables
