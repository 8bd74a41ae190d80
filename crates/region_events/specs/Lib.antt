pub mod Guards
pub mod Laws
pub mod Rules
pub mod Starting
