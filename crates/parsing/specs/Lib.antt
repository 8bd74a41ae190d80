pub mod Bytes
pub mod Results
pub mod Options
pub mod Places
