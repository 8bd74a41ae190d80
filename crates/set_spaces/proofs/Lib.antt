mod Classes
mod Given
mod Homes
mod Listing
mod Numbered
mod Places
mod Texts
