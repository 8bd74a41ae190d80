mod Supers
mod Places
mod Leading
mod Rowed
mod Numbered
mod Dispatching
pub mod Found
mod Instances
mod Coding
mod Counted
mod Sizes
mod Spelled
pub mod FirstMethods
mod Assembling
mod Signed
mod Selected
mod Finds
mod Filling
mod Inheriting
mod Declaring
mod Along
pub mod ClassesThere
mod OpsNamed
mod FieldsNamed
mod Naming
mod Subtypes
mod MethodRows
mod Ends
mod MethodsFound
mod CodeIn
mod TablesOf
