pub mod Running
pub mod Leading
pub mod Pushed
pub mod PushedLongs
pub mod Listing
pub mod Piles
pub mod Slots
