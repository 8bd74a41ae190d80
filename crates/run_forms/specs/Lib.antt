pub mod Views
pub mod Standing
pub mod Laws
pub mod Volatile
pub mod Ends
