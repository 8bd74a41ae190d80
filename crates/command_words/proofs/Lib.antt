pub mod Asked
pub mod Digits
pub mod Ranges
pub mod ReadRows
pub mod RefusedRows
