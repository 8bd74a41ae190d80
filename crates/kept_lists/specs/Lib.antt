pub mod Doubts
pub mod Fitting
pub mod Goes
