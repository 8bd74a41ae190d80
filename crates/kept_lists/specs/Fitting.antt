-- Operations that fit a heap one after another.
use Rattle.std.specs.Prelude.{◌≡◌, ℕ, true, List, [], ◌∷◌, map}
use Rattle.graph_model.specs.declared.types.Heap.{Heap}
use Rattle.graph_model.specs.Heaps.{IsSound}
use Rattle.run_history.specs.declared.act.Op.{Op}
use Rattle.run_history.specs.declared.act.Op.TheVariants as op
use Rattle.run_history.specs.Recorded.{Recorded}
use Rattle.run_history.specs.Worlds.{fits, heap_after, heap_after_op}
use Rattle.run_history.specs.Knowing.{Knowledge, known_after}
use Rattle.kept_lists.specs.declared.doubts.Doubt.{Doubt}
use Rattle.kept_lists.specs.declared.doubts.Doubt.TheVariants as doubt
use Rattle.kept_lists.specs.declared.doubts.Doubts.{Doubts}
use Rattle.kept_lists.specs.Doubts.{StandsFor}
use Rattle.audit_verdicts.specs.Picked.{kept_by}

-- each fits the heap after those before it
abbrev pub FitEach : Heap → List Op → Type 0
FitEach heap [] = Unit {0}
FitEach heap (o ∷ os) = (fits heap o ≡ true) × FitEach (heap_after_op heap o) os

abbrev pub ops_of : List Recorded → List Op
ops_of acts = map (λ (a : Recorded). a.act.op) acts

-- only a store is in doubt
abbrev pub IsOfStore : Op → Doubt → Type 0
IsOfStore (op.Stored place value) d = Unit {0}
IsOfStore o doubt.Never = Unit {0}
IsOfStore o d = ⊥

abbrev pub AreOfStores : List Recorded → List Doubt → Type 0
AreOfStores [] ds = Unit {0}
AreOfStores (a ∷ xs) [] = ⊥
AreOfStores (a ∷ xs) (d ∷ ds) = IsOfStore a.act.op d × AreOfStores xs ds

-- Where all acts fit the heaps before them, so do those of each kept list: only stores are dropped.
abbrev pub KeptListsFit : Type 0
KeptListsFit = (first : Knowledge) (acts : List Recorded) (d : Doubts) (keep : ℕ) → StandsFor first acts d → AreOfStores acts d.doubts.items
    → FitEach first.world.heap (ops_of acts) → FitEach first.world.heap (kept_by keep (known_after first acts).marks)

-- Operations that fit leave a sound heap sound.
abbrev pub FittingKeepsSound : Type 0
FittingKeepsSound = (heap : Heap) (os : List Op) → IsSound heap → FitEach heap os → IsSound (heap_after heap os)
