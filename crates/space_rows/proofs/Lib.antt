mod Asking
mod Beginning
mod Here
mod Made
mod Moving
mod Stepping
