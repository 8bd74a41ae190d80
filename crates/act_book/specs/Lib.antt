pub mod Known
pub mod Rules
