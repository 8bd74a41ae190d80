pub mod Audits
pub mod Judged
pub mod Laws
pub mod Late
pub mod Linking
pub mod Printing
pub mod Records
