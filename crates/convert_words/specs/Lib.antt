pub mod Agreeing
pub mod Converting
pub mod Laws
pub mod Scenes
pub mod Sealing
pub mod Steps
