-- Typed heaps: each object has values of its fields' kinds, or of its elements' one, and so has each static
-- field.
use Rattle.std.specs.Prelude.{ℕ, zero, suc, ◌<◌, length, slice_get, slice_index_or, Option, Some, None, All}
use Rattle.ap_base.specs.declared.kind.Kind.{Kind}
use Rattle.ap_base.specs.declared.kind.Kind.TheVariants.{L}
use Rattle.graph_model.specs.declared.types.Value.TheVariants.{Null}
use Rattle.graph_model.specs.declared.types.Obj.{Obj}
use Rattle.graph_model.specs.declared.types.Heap.{Heap}
use Rattle.graph_model.specs.declared.types.Graph.{Graph}
use Rattle.plain_model.specs.Facts.{StaticFacts, SetFacts, class_at}
use Rattle.plain_model.specs.Kinds.{IsOf, AreOf}
use Rattle.plain_model.specs.Consistent.{IsConsistent}
use Rattle.plain_model.specs.First.{IsOpening, first_heap}

abbrev pub kind_in : Option StaticFacts → Kind
kind_in None = L
kind_in (Some s) = s.kind

-- the kind of a static by its number: System.out and the roots that the set lacks are references
abbrev pub static_kind : SetFacts → ℕ → Kind
static_kind set zero = L
static_kind set (suc k) = kind_in (slice_get set.statics k)

-- an object has values of its class
abbrev pub IsOfItsClass : SetFacts → Obj → Type 0
IsOfItsClass set o = AreOf (class_at set o.shape).shape.element (class_at set o.shape).shape.fields o.values

pub record IsTyped (set : SetFacts) (heap : Heap) : Type 0 where
  pub objects : All (IsOfItsClass set) heap.objects
  pub statics : (n : ℕ) → n < length heap.statics → IsOf (static_kind set n) (slice_index_or heap.statics n Null)

-- The first heap is typed.
abbrev pub FirstHeapIsTyped : Type 0
FirstHeapIsTyped = (set : SetFacts) (opening : Graph) → IsConsistent set → IsOpening set opening
    → IsTyped set (first_heap set opening)
