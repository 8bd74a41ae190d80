mod Advancing
mod Beginning
mod Corresponding
