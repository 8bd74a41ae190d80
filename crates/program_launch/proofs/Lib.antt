pub mod MainMethods
pub mod Progress
pub mod Rooms
