-- A history that computes: two nodes that refer to each other, and a store to one of them.
use Rattle.std.specs.Prelude.{◌≡◌, ◌≢◌, ◌⊎◌, ◌↔◌, pos, true, [], ◌∷◌, None}
use Rattle.ap_base.specs.declared.kind.Kind.TheVariants.{I, L}
use Rattle.ap_base.specs.declared.place.Place.TheVariants.{Slot}
use Rattle.graph_model.specs.declared.types.Value.{Value}
use Rattle.graph_model.specs.declared.types.Value.TheVariants.{Int, Obj as Object}
use Rattle.graph_model.specs.declared.types.Shape.{Shape}
use Rattle.graph_model.specs.declared.types.Heap.{Heap}
use Rattle.graph_model.specs.declared.types.Graph.{Graph}
use Rattle.run_history.specs.declared.act.Op.TheVariants as op
use Rattle.run_history.specs.Worlds.{new_thread}
use Rattle.run_history.specs.Laws.{Past, further, Allows}

-- class N with `int v; N n`
abbrev pub node : Shape
node = record {
  name = 78 ∷ [];
  fields =
      record { name = 118 ∷ []; kind = I; kept = true }
      ∷ record { name = 110 ∷ []; kind = L; kept = true }
      ∷ [];
  element = None;
}

-- Objects 0 and 2 refer to each other, the root h names object 2, and object 1 is reached by nobody.
abbrev pub ring : Heap
ring = record {
  shapes = node ∷ [];
  objects =
      record { shape = 0; values = Int (pos 5) ∷ Object 2 ∷ [] }
      ∷ record { shape = 0; values = Int (pos 8) ∷ Object 0 ∷ [] }
      ∷ record { shape = 0; values = Int (pos 6) ∷ Object 0 ∷ [] }
      ∷ [];
  statics = Object 2 ∷ [];
  roots = record { name = 104 ∷ []; at = 0 } ∷ [];
}

-- thread 0 has done nothing yet, and objects 0 and 2 are durable
abbrev pub ring_past : Past
ring_past = record {
  world = record { heap = ring; monitors = []; classes = []; threads = new_thread None ∷ [] };
  durable = 0 ∷ 2 ∷ [];
  acts = [];
}

-- thread 0 stores 7 into `v` of object 0
abbrev pub ring_stored : Past
ring_stored = further ring_past 0 1 (op.Stored (Slot 0 0) (Int (pos 7)))

-- the ring as a graph, where `v` of object 0 has this value: object 2 is found first
abbrev pub ring_with : Value → Graph
ring_with value = record {
  roots = record { name = 104 ∷ []; value = Object 0 } ∷ [];
  nodes =
      record { shape = node; values = Int (pos 6) ∷ Object 1 ∷ [] }
      ∷ record { shape = node; values = value ∷ Object 0 ∷ [] }
      ∷ [];
}

-- After the store two graphs are allowed: the old one, and that with the store.
pub record RingHasTwoGraphs : Type 0 where
  pub either : (g : Graph) → Allows ring_stored g ↔ ((g ≡ ring_with (Int (pos 5))) ⊎ (g ≡ ring_with (Int (pos 7))))
  pub apart : ring_with (Int (pos 5)) ≢ ring_with (Int (pos 7))

-- After its fence only the latter is.
abbrev pub RingHasOneGraph : Type 0
RingHasOneGraph = (g : Graph) → Allows (further ring_stored 0 3 op.Fenced) g ↔ (g ≡ ring_with (Int (pos 7)))
