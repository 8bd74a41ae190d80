pub mod ImageWords
pub mod LineWords
pub mod ObjectWords
pub mod Outcomes
pub mod Plans
pub mod Spellings
