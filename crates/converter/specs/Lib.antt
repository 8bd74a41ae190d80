pub mod Beginning
pub mod Laws
pub mod Looking
pub mod Working
pub mod Sealing
pub mod Stepping
