pub mod Asking
pub mod Lasting
