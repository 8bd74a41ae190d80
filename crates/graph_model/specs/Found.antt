-- The objects that were found so far, and their places in the order.
use Rattle.std.specs.Prelude.{◌≡◌, true, ℕ, ◌<◌, ◌^◌, List, length, All, Option, Some, None, slice_index_or, nat_eq}
use Rattle.std.specs.Prelude.{if◌then◌else◌}
use Rattle.std.specs.List.{IsDistinct}
use Rattle.graph_model.specs.declared.types.Value.{Value}
use Rattle.graph_model.specs.declared.types.Value.TheVariants.{Int, Long, Null, Obj as Object}
use Rattle.graph_model.specs.declared.types.Root.{Root}
use Rattle.graph_model.specs.declared.types.Heap.{Heap}
use Rattle.graph_model.specs.Heaps.{has_number, kept_values_of}
use Rattle.graph_model.specs.Canon.{place_in}

-- the found objects in order, of so many
pub record Found : Type 0 where
  pub numbers : List ℕ
  pub objects : ℕ

-- the place of an object, if it is found
abbrev pub place_of : List ℕ → ℕ → Option ℕ
place_of found n = if has_number found n then Some (place_in found n) else None

-- Each of these objects has its place, and each is found once.
pub record IsPlaced (found : List ℕ) (places : List (Option ℕ)) : Type 0 where
  pub few : length places < 2 ^ 32
  pub once : IsDistinct nat_eq found
  pub below : All (λ n. n < length places) found
  pub placed : (n : ℕ) → n < length places → slice_index_or places n None ≡ place_of found n

-- the value is no object, or a found one
abbrev pub IsNumbered : List ℕ → Value → Type 0
IsNumbered found (Int i) = Unit {0}
IsNumbered found (Long i) = Unit {0}
IsNumbered found Null = Unit {0}
IsNumbered found (Object n) = has_number found n ≡ true

-- a root whose value is numbered
abbrev pub IsNumberedRoot : Heap → List ℕ → Root → Type 0
IsNumberedRoot heap found r = IsNumbered found (slice_index_or heap.statics r.at Null)

-- an object of the heap whose values are found
abbrev pub IsNode : Heap → List ℕ → ℕ → Type 0
IsNode heap found n = (n < length heap.objects) × All (IsNumbered found) (kept_values_of heap n)
