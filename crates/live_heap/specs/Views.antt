-- What a reader is told of what was seen.
use Rattle.std.specs.Prelude.{ℕ, suc, Bool, true, false, not, List, [], ◌∷◌, filter, length, slice_get, Option, Some, None}
use Rattle.std.specs.Prelude.{if◌then◌else◌}
use Rattle.ap_base.specs.declared.place.Place.TheVariants.{Static, Slot}
use Rattle.graph_model.specs.declared.types.Value.{Value}
use Rattle.graph_model.specs.declared.types.Value.TheVariants.{Int, Long, Null, Obj as Object}
use Rattle.graph_model.specs.declared.types.Root.{Root}
use Rattle.graph_model.specs.declared.types.Heap.{Heap}
use Rattle.graph_model.specs.Heaps.{root_values, value_at}
use Rattle.graph_model.specs.Canon.{found_from}
use Rattle.run_history.specs.Worlds.{has_place}
use Rattle.live_heap.specs.declared.views.Look.{Look}
use Rattle.live_heap.specs.declared.views.Followed.{Followed}
use Rattle.live_heap.specs.declared.views.Followed.TheVariants.{Found, NoPath}
use Rattle.live_heap.specs.Seen.{Seen}

abbrev pub is_null : Value → Bool
is_null Null = true
is_null (Int i) = false
is_null (Long i) = false
is_null (Object n) = false

-- how many acts there were, roots that aren't null, objects that the roots reach, and durable stores
abbrev pub view_of : Seen → Look
view_of seen = record {
  acts = seen.acts;
  roots = length (filter (λ v. not (is_null v)) (root_values seen.heap));
  nodes = length (found_from seen.heap (root_values seen.heap));
  stores = seen.stores;
}

-- what a slot of an object holds, if the value is an object that has it
abbrev pub slot_value : Heap → Value → ℕ → Option Value
slot_value heap (Object n) i = if has_place heap (Slot n i) then Some (value_at heap (Slot n i)) else None
slot_value heap (Int j) i = None
slot_value heap (Long j) i = None
slot_value heap Null i = None

-- the value to which these slots lead from a value, the first of which is this step
abbrev pub followed_from : Heap → ℕ → Value → List ℕ → Followed
followed_from heap step value [] = Found value
followed_from heap step value (i ∷ slots) = elim (slot_value heap value i) [
  | None ↦ NoPath step
  | Some next ↦ followed_from heap (suc step) next slots
]

-- the value to which these slots lead from a root; the root is step 0
abbrev pub followed : Heap → ℕ → List ℕ → Followed
followed heap root slots = elim (slice_get heap.roots root) [
  | None ↦ NoPath 0
  | Some r ↦ followed_from heap 1 (value_at heap (Static r.at)) slots
]
