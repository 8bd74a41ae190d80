pub mod Left
pub mod Again
pub mod Printed
pub mod Whole
