pub mod Asking
pub mod First
pub mod Laws
pub mod Shapes
pub mod Written
