-- Acts that no plain run makes, and what they leave of what is seen of a class set.
use Rattle.std.specs.Prelude.{◌≡◌, ◌≢◌, ◌⊎◌, ℕ, suc, ◌<◌, ◌≤◌, ◌^◌, List, length, None}
use Rattle.graph_model.specs.declared.types.Shape.{Shape}
use Rattle.graph_model.specs.declared.types.Heap.{Heap}
use Rattle.graph_model.specs.declared.types.Graph.{Graph}
use Rattle.graph_model.specs.Heaps.{HasPlace, IsBelow, shape_at}
use Rattle.run_history.specs.declared.act.Op.{Op}
use Rattle.run_history.specs.declared.act.Op.TheVariants as op
use Rattle.run_history.specs.Recorded.{Recorded}
use Rattle.run_history.specs.Worlds.{heap_after_op}
use Rattle.plain_model.specs.Facts.{SetFacts, classes_of, shapes_of}
use Rattle.live_heap.specs.Seen.{Seen, seen_after, seen_from}
use Rattle.live_laws.specs.Firsts.{first_seen}

-- no object of this shape has so many slots: those of a class have one for each of its fields
abbrev pub NoneHas : Shape → ℕ → Type 0
NoneHas shape count = (shape.element ≡ None) × (count ≢ length shape.fields)

-- A stray: a new object that hasn't the next number, a shape or class of the set, or a length that objects of its shape have;
-- a store whose place isn't there, or the object that it stores.
abbrev pub IsStray : SetFacts → Heap → Op → Type 0
IsStray set heap (op.Alloc n shape count) =
    (n ≢ length heap.objects) ⊎ (length (classes_of set) ≤ shape) ⊎ NoneHas (shape_at heap shape) count
IsStray set heap (op.Throw n class) = (n ≢ length heap.objects) ⊎ (length (classes_of set) ≤ class)
IsStray set heap (op.Stored place value) = (HasPlace heap place → ⊥) ⊎ (IsBelow (length heap.objects) value → ⊥)
IsStray set heap o = ⊥

-- A stray is counted, and changes nothing else. Any other act is done, where it leaves fewer than 2^32 objects.
pub record IsTakenIn (set : SetFacts) (seen : Seen) (a : Recorded) : Type 0 where
  pub shapes : seen.heap.shapes ≡ shapes_of set
  pub stray : IsStray set seen.heap a.act.op → seen_after seen a ≡ record seen { acts = suc seen.acts }
  pub done : (IsStray set seen.heap a.act.op → ⊥) → length (heap_after_op seen.heap a.act.op).objects < 2 ^ 32
      → (seen_after seen a).heap ≡ heap_after_op seen.heap a.act.op

-- After whatever acts, so is the next one taken in.
abbrev pub StraysChangeNothing : Type 0
StraysChangeNothing = (set : SetFacts) (opening : Graph) (acts : List Recorded) (a : Recorded)
    → IsTakenIn set (seen_from (first_seen set opening) acts) a
