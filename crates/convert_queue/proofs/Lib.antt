pub mod ChainLemmas
pub mod ListLemmas
pub mod NoteLemmas
pub mod Rechained
pub mod Sets
pub mod TreeLemmas
pub mod WalkLemmas
pub mod WorkLaws
