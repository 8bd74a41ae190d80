-- The heap before its last change.
use Rattle.std.specs.Prelude.{ℕ, ◌-◌, Bool, true, nat_lt, ◌&&◌, List, length, take, slice_set, slice_index_or}
use Rattle.graph_model.specs.declared.types.Value.{Value}
use Rattle.graph_model.specs.declared.types.Obj.{Obj}
use Rattle.graph_model.specs.declared.types.Shape.{Shape}
use Rattle.graph_model.specs.Heaps.{no_object, with_slot}
use Rattle.shared_objects.specs.Shown.{Shown}
use Rattle.plain_heap.specs.declared.change.Change.{Change}
use Rattle.plain_heap.specs.declared.change.Change.TheVariants as change
use Rattle.plain_heap.specs.Shows.{shown_with}

abbrev pub objects_before : Change → List Obj → List Obj
objects_before (change.Slot n i v) os = slice_set os n (with_slot (slice_index_or os n no_object) i v)
objects_before (change.Made left) os = take (length os - 1) os
objects_before other os = os

abbrev pub statics_before : Change → List Value → List Value
statics_before (change.Static n v) ss = slice_set ss n v
statics_before other ss = ss

abbrev pub left_before : Change → ℕ → ℕ
left_before (change.Made left) now = left
left_before other now = now

abbrev pub shown_before : Change → List Shape → List Obj → List Value → ℕ → Shown
shown_before c shapes os ss left =
    shown_with shapes (objects_before c os) (statics_before c ss) (left_before c left)

-- whether what was changed is there
abbrev pub is_placed : Change → List Obj → List Value → Bool
is_placed (change.Slot n i v) os ss = nat_lt n (length os) && nat_lt i (length (slice_index_or os n
    no_object).values)
is_placed (change.Static n v) os ss = nat_lt n (length ss)
is_placed other os ss = true
