-- What a stop may leave of a history: its kept lists, and the graphs that it allows. A closing region is kept whole or not
-- at all, an open one not at all, and of each thread's stores outside regions the one that isn't fenced may be lost.
use Rattle.std.specs.Prelude.{◌≡◌, ℕ, Bool, true, false, nat_lt, List, [], ◌∷◌, filter, if◌then◌else◌}
use Rattle.graph_model.specs.declared.types.Heap.{Heap}
use Rattle.graph_model.specs.declared.types.Graph.{Graph}
use Rattle.graph_model.specs.Canon.{canon_of}
use Rattle.run_history.specs.declared.act.Op.{Op}
use Rattle.run_history.specs.Recorded.{Recorded}
use Rattle.run_history.specs.Worlds.{heap_after_op, heap_after}
use Rattle.run_history.specs.Knowing.{Fate, Sure, Open, Closing, Single, Mark, Knowledge, known_after}

-- whether an act of this fate is kept, where these closing regions and these single stores are
abbrev pub survives : (ℕ → Bool) → (ℕ → Bool) → Fate → Bool
survives regions singles Sure = true
survives regions singles (Open t) = false
survives regions singles (Closing t) = regions t
survives regions singles (Single t) = singles t

-- the operations that are kept, in the history's order
abbrev pub kept : (ℕ → Bool) → (ℕ → Bool) → List Mark → List Op
kept regions singles [] = []
kept regions singles (m ∷ ms) = if survives regions singles m.fate then m.op ∷ kept regions singles ms else kept regions singles ms

-- a kept list of what was marked
abbrev pub IsKept : List Mark → List Op → Type 0
IsKept marks ops = (regions singles : ℕ → Bool) × (ops ≡ kept regions singles marks)

-- the graph after some kept list
abbrev pub MayRemain : Heap → List Mark → Graph → Type 0
MayRemain first marks g = (ops : List Op) × IsKept marks ops × (g ≡ canon_of (heap_after first ops))

-- the graph after some kept list and one more operation
abbrev pub MayRemainWith : Heap → List Mark → Op → Graph → Type 0
MayRemainWith first marks o g = (ops : List Op) × IsKept marks ops × (g ≡ canon_of (heap_after_op (heap_after first ops) o))

-- A graph that the history allows, from what is known at first: the canonical graph after some kept list.
abbrev pub IsAllowedFrom : Knowledge → List Recorded → Graph → Type 0
IsAllowedFrom known acts g = MayRemain known.world.heap (known_after known acts).marks g

-- what had happened when a stop fell within image call m
abbrev pub acts_before : ℕ → List Recorded → List Recorded
acts_before m acts = filter (λ (a : Recorded). nat_lt a.act.at m) acts
