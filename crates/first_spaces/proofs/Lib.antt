mod Agreeing
mod Chars
mod Emptied
mod Filling
mod Given
mod Growing
pub mod Holding
mod Nodes
mod Numbers
mod Objects
mod Opening
mod Rooting
mod Statics
mod Values
