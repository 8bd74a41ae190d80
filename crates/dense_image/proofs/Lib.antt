pub mod Dense
pub mod Heaps
pub mod Lines
pub mod Shapes
pub mod Standing
pub mod Written
