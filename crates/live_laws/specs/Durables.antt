-- Of a plain run what is seen says what is known: the heap, which objects are durable, and how many durable stores there were.
use Rattle.std.specs.Prelude.{◌≡◌, ℕ, ◌<◌, ◌^◌, false, List, length, slice_index_or}
use Rattle.graph_model.specs.declared.types.Graph.{Graph}
use Rattle.graph_model.specs.Heaps.{has_number}
use Rattle.run_history.specs.Recorded.{Recorded}
use Rattle.run_history.specs.Knowing.{Knowledge}
use Rattle.plain_model.specs.Facts.{SetFacts}
use Rattle.plain_model.specs.Consistent.{IsConsistent}
use Rattle.plain_model.specs.First.{IsOpening}
use Rattle.plain_model.specs.Codes.{Code}
use Rattle.plain_model.specs.Duties.{KeepsDuties}
use Rattle.plain_model.specs.Runs.{IsPlainRun, known_of}
use Rattle.live_heap.specs.Seen.{Seen, seen_from}
use Rattle.live_laws.specs.Firsts.{first_seen}

pub record IsSeenOf (seen : Seen) (known : Knowledge) : Type 0 where
  pub heap : seen.heap ≡ known.world.heap
  pub durable : (n : ℕ) → slice_index_or seen.durable n false ≡ has_number known.durable n
  pub stores : seen.stores ≡ known.stores

-- After a plain run of code that keeps its duties, where it leaves fewer than 2^32 objects.
abbrev pub SeenIsWhatIsKnown : Type 0 → Type 0
SeenIsWhatIsKnown Frames = (set : SetFacts) (main : ℕ) (opening : Graph) (code : Code set main opening Frames)
    (acts : List Recorded) → IsConsistent set → IsOpening set opening → KeepsDuties set main opening code
    → IsPlainRun set main opening code acts
    → length (known_of set main opening code acts).world.heap.objects < 2 ^ 32
    → IsSeenOf (seen_from (first_seen set opening) acts) (known_of set main opening code acts)
