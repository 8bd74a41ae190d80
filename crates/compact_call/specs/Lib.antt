pub mod Faults
pub mod Fresh
pub mod Outcomes
pub mod Laws
