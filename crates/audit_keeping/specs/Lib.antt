pub mod Beginning
pub mod Goes
pub mod Keeping
pub mod Steps
pub mod Walking
pub mod Wishing
