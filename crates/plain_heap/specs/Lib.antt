pub mod Shows
pub mod Backs
pub mod Sound
pub mod Heaps
pub mod Laws
