-- The laws of what places keep, of what is known and one more act.
use Rattle.std.specs.Prelude.{◌≡◌, ℕ, true, false, List, Some}
use Rattle.ap_base.specs.declared.place.Place.{Place}
use Rattle.graph_model.specs.Heaps.{has_number, place_is}
use Rattle.graph_model.specs.declared.types.Graph.{Graph}
use Rattle.graph_model.specs.declared.types.Heap.{Heap}
use Rattle.run_history.specs.Recorded.{Recorded}
use Rattle.run_history.specs.Knowing.{Knowledge, next_known, has_guards, unfenced_at}
use Rattle.plain_model.specs.Facts.{SetFacts}
use Rattle.plain_model.specs.First.{first_known}
use Rattle.plain_model.specs.Codes.{Code}
use Rattle.plain_model.specs.Runs.{IsPlainRun, known_of}
use Rattle.stop_theorem.specs.Orderly.{IsOrderly, KeepsRule, NoSingleAt, NoneOpen}

-- ---- histories

-- An act that keeps the rule of stores keeps the marks in order; so does each act of a plain run.
abbrev pub ActsKeepOrder : Type 0
ActsKeepOrder = (first : Heap) (known : Knowledge) (a : Recorded) → IsOrderly first known
    → KeepsRule known a.act.thread a.act.op → IsOrderly first (next_known known a)

abbrev pub PlainRunsAreOrderly : Type 0 → Type 0
PlainRunsAreOrderly Frames = (set : SetFacts) (main : ℕ) (opening : Graph)
    (code : Code set main opening Frames) (acts : List Recorded) → IsPlainRun set main opening code acts
    → IsOrderly (first_known set opening).world.heap (known_of set main opening code acts)

-- A thread that owes a fence has its single store where it owes it.
abbrev pub SingleStoresArePlaced : Type 0
SingleStoresArePlaced = (first : Heap) (known : Knowledge) (t : ℕ) (p q : Place) → IsOrderly first known
    → unfenced_at known.unfenced t ≡ Some p
    → place_is p q ≡ false → NoSingleAt q t known.marks

-- At the end of a region nothing of an open one is there.
abbrev pub EndsCloseRegions : Type 0
EndsCloseRegions = (first : Heap) (known : Knowledge) (t : ℕ) → IsOrderly first known
    → (has_guards known.guards t ≡ true → has_number known.closing t ≡ true)
    → NoneOpen t known.marks
