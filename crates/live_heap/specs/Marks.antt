-- Marks of the objects that a walk has found.
use Rattle.std.specs.Prelude.{◌≡◌, false, ℕ, ◌<◌, Bool, List, length, slice_index_or}
use Rattle.graph_model.specs.Heaps.{has_number}

-- Each of these objects is marked exactly where it is found.
abbrev pub AreMarked : List ℕ → List Bool → Type 0
AreMarked found marks = (n : ℕ) → n < length marks → slice_index_or marks n false ≡ has_number found n
