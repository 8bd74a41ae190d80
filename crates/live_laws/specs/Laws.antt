-- What holds of everything that is seen.
use Rattle.std.specs.Prelude.{◌≡◌, ℕ, ◌+◌, ◌<◌, ◌^◌, List, length}
use Rattle.graph_model.specs.declared.types.Graph.{Graph}
use Rattle.graph_model.specs.Canon.{canon_of}
use Rattle.run_history.specs.Recorded.{Recorded}
use Rattle.plain_model.specs.Facts.{SetFacts}
use Rattle.plain_model.specs.Consistent.{IsConsistent}
use Rattle.plain_model.specs.First.{IsOpening}
use Rattle.plain_model.specs.Codes.{Code}
use Rattle.plain_model.specs.Duties.{KeepsDuties}
use Rattle.plain_model.specs.Runs.{IsPlainRun, known_of}
use Rattle.live_heap.specs.Seen.{Seen, seen_from}
use Rattle.live_heap.specs.Views.{view_of}
use Rattle.live_laws.specs.Firsts.{first_seen}

-- After a plain run of code that keeps its duties the heap that is seen is the plain world's, where it has fewer than 2^32
-- objects.
abbrev pub SeenHeapIsThePlainHeap : Type 0 → Type 0
SeenHeapIsThePlainHeap Frames = (set : SetFacts) (main : ℕ) (opening : Graph) (code : Code set main opening Frames)
    (acts : List Recorded) → IsConsistent set → IsOpening set opening → KeepsDuties set main opening code
    → IsPlainRun set main opening code acts
    → length (known_of set main opening code acts).world.heap.objects < 2 ^ 32
    → (seen_from (first_seen set opening) acts).heap ≡ (known_of set main opening code acts).world.heap

-- What is seen after some acts has as many more.
abbrev pub ActsAreCounted : Type 0
ActsAreCounted = (first : Seen) (acts : List Recorded) → (seen_from first acts).acts ≡ first.acts + length acts

-- The nodes that a look counts are those of the canonical graph.
abbrev pub NodesAreThoseOfTheGraph : Type 0
NodesAreThoseOfTheGraph = (seen : Seen) → (view_of seen).nodes ≡ length (canon_of seen.heap).nodes
