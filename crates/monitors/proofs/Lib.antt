mod Becomes
mod Equal
mod Firsts
mod Indexing
mod Lasts
mod Sound
