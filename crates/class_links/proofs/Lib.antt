pub mod Edges
pub mod Known
pub mod Doubled
pub mod Refusals
