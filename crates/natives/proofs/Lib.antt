pub mod Wholes
mod Ends
mod NativeTable
mod Following
mod Outputs
