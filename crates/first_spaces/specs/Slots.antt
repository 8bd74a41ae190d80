-- Where static fields lie: beside the heap, or in root slots.
use Rattle.std.specs.Prelude.{◌≡◌, ℕ, zero, suc, ◌<◌, List, [], ◌∷◌, length, slice_index_or, Option, if◌then◌else◌}
use Rattle.ap_base.specs.declared.kind.Kind.{Kind}
use Rattle.graph_model.specs.declared.types.NamedValue.{NamedValue}
use Rattle.graph_model.specs.declared.types.Root.{Root}
use Rattle.plain_model.specs.Facts.{StaticFacts, Constant}
use Rattle.plain_model.specs.First.{name_is}

-- A static field lies beside the heap, and begins with a constant or the default of its kind; or in a root
-- slot.
pub data Home : Type 0 where
  BesideHeap : Kind → Option Constant → Home
  InSlot : ℕ → Home

-- the place of the root with this name among the graph's roots; one past all where there is none
abbrev pub slot_named : List NamedValue → List ℕ → ℕ
slot_named [] name = zero
slot_named (r ∷ rs) name = if name_is r.name name then zero else suc (slot_named rs name)

-- a durable root lies in the slot of its name
abbrev pub home_of : List NamedValue → StaticFacts → Home
home_of roots s = if s.is_root then InSlot (slot_named roots s.name) else BesideHeap s.kind s.constant

abbrev pub slot_of : List NamedValue → NamedValue → Home
slot_of roots r = InSlot (slot_named roots r.name)

abbrev pub no_root : Root
no_root = record { name = []; at = 0 }

-- the durable root of this number has its value in this static field
pub record IsRootAt (roots : List Root) (slot f : ℕ) : Type 0 where
  pub there : slot < length roots
  pub at : (slice_index_or roots slot no_root).at ≡ f
