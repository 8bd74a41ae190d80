mod Whole
mod Told
