pub mod Beside
pub mod First
pub mod Laws
pub mod Layout
pub mod Making
pub mod Shows
