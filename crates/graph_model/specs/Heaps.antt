-- Plain heaps: a list of objects that never move, static fields and durable roots (JVMS 2.4, 2.5.3; Shull, Huang and
-- Torrellas, "AutoPersist", PLDI 2019, for durable roots). What their places hold, and what a store changes.
use Rattle.std.specs.Prelude.{ℕ, ◌<◌, ◌^◌, Bool, true, false, nat_eq, pos, List, [], ◌∷◌, ◌++◌, map, length, replicate}
use Rattle.std.specs.Prelude.{slice_set, slice_index_or, Some, None, All, ◌||◌, ◌&&◌}
use Rattle.ap_base.specs.declared.kind.Kind.{Kind}
use Rattle.ap_base.specs.declared.kind.Kind.TheVariants.{Z, B, C, S, I, J, L, Text}
use Rattle.ap_base.specs.declared.place.Place.{Place}
use Rattle.ap_base.specs.declared.place.Place.TheVariants.{Static, Slot}
use Rattle.graph_model.specs.declared.types.Value.{Value}
use Rattle.graph_model.specs.declared.types.Value.TheVariants.{Int, Long, Null, Obj as Object}
use Rattle.graph_model.specs.declared.types.Field.{Field}
use Rattle.graph_model.specs.declared.types.Shape.{Shape}
use Rattle.graph_model.specs.declared.types.Obj.{Obj}
use Rattle.graph_model.specs.declared.types.Root.{Root}
use Rattle.graph_model.specs.declared.types.Heap.{Heap}

-- What a place of this kind holds at first (JVMS 2.3, 2.4).
abbrev pub default_of : Kind → Value
default_of Z = Int (pos 0)
default_of B = Int (pos 0)
default_of C = Int (pos 0)
default_of S = Int (pos 0)
default_of I = Int (pos 0)
default_of J = Long (pos 0)
default_of L = Null
default_of Text = Int (pos 0)

abbrev pub no_shape : Shape
no_shape = record { name = []; fields = []; element = None }

abbrev pub no_object : Obj
no_object = record { shape = 0; values = [] }

-- the object of a number; one without slots where there is none
abbrev pub object_at : Heap → ℕ → Obj
object_at heap n = slice_index_or heap.objects n no_object

abbrev pub shape_at : Heap → ℕ → Shape
shape_at heap n = slice_index_or heap.shapes n no_shape

abbrev pub values_of : Heap → ℕ → List Value
values_of heap n = (object_at heap n).values

-- Whether what stands in this slot of the object is kept: every slot is. What isn't kept refers to nothing.
abbrev pub is_kept_slot : Heap → ℕ → ℕ → Bool
is_kept_slot heap n i = true

-- what the object's slots keep, in order: what stands in them
abbrev pub kept_values_of : Heap → ℕ → List Value
kept_values_of heap n = values_of heap n

-- the value is no object, or one of the first n
abbrev pub IsBelow : ℕ → Value → Type 0
IsBelow n (Int i) = Unit {0}
IsBelow n (Long i) = Unit {0}
IsBelow n Null = Unit {0}
IsBelow n (Object m) = m < n

-- Each reference names an object, each object's shape is there, and so is each root's static.
pub record IsSound (heap : Heap) : Type 0 where
  pub few : length heap.objects < 2 ^ 32
  pub shapes : All (λ o. o.shape < length heap.shapes) heap.objects
  pub slots : All (λ o. All (IsBelow (length heap.objects)) o.values) heap.objects
  pub statics : All (IsBelow (length heap.objects)) heap.statics
  pub roots : All (λ r. r.at < length heap.statics) heap.roots

-- the heap has this place
abbrev pub HasPlace : Heap → Place → Type 0
HasPlace heap (Static n) = n < length heap.statics
HasPlace heap (Slot n i) = (n < length heap.objects) × (i < length (values_of heap n))

-- what a place holds; null where there is no such place
abbrev pub value_at : Heap → Place → Value
value_at heap (Static n) = slice_index_or heap.statics n Null
value_at heap (Slot n i) = slice_index_or (values_of heap n) i Null

abbrev pub with_slot : Obj → ℕ → Value → Obj
with_slot object i value = record object { values = slice_set object.values i value }

-- The heap after a store: one place has the value, and nothing else has changed.
abbrev pub stored : Heap → Place → Value → Heap
stored heap (Static n) value = record heap { statics = slice_set heap.statics n value }
stored heap (Slot n i) value =
    record heap { objects = slice_set heap.objects n (with_slot (object_at heap n) i value) }

-- the values of a new object of this shape: its fields' defaults, or so many elements
abbrev pub fresh_values : Shape → ℕ → List Value
fresh_values shape count = elim shape.element [
  | None ↦ map (λ (f : Field). default_of f.kind) shape.fields
  | Some kind ↦ replicate count (default_of kind)
]

-- The heap with one more object of this shape, which has the next number.
abbrev pub with_fresh : Heap → ℕ → ℕ → Heap
with_fresh heap shape count = record heap {
  objects = heap.objects ++ record { shape = shape; values = fresh_values (shape_at heap shape) count } ∷ [];
}

-- what the durable roots hold, in order
abbrev pub root_values : Heap → List Value
root_values heap = map (λ (r : Root). slice_index_or heap.statics r.at Null) heap.roots

abbrev pub place_is : Place → Place → Bool
place_is (Static m) (Static n) = nat_eq m n
place_is (Slot m i) (Slot n j) = nat_eq m n && nat_eq i j
place_is (Static m) (Slot n j) = false
place_is (Slot m i) (Static n) = false

abbrev pub has_number : List ℕ → ℕ → Bool
has_number [] n = false
has_number (m ∷ ms) n = nat_eq m n || has_number ms n
