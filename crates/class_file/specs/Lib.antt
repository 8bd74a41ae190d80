pub mod Refusals
pub mod Members
pub mod Classes
pub mod FieldParts
pub mod Fits
pub mod RootNames
pub mod Rows
