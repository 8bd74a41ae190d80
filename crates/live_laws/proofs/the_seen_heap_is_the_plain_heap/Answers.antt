use Rattle.std.proofs.Common.{◌<◌, ◌^◌, List, [], ◌∷◌, ◌++◌, length}
use Rattle.run_history.specs.Recorded.{Recorded}
use Rattle.plain_model.specs.Runs.{IsPlainRun, known_of}
use Rattle.plain_model.specs.TypeLaws.{FitsItsHeap}
use Rattle.live_laws.proofs.Following.{begins, follows}
use Rattle.live_laws.proofs.the_seen_heap_is_the_plain_heap.Goals as goal

pub returns : goal.returns
returns g c set main opening code acts consistent is duties run few =
    let fit : (front : List Recorded) (a : Recorded) (rest : List Recorded)
    → IsPlainRun set main opening code (front ++ a ∷ rest)
    → length (known_of set main opening code (front ++ a ∷ [])).world.heap.objects < 2 ^ 32
    → FitsItsHeap set main opening code front a =
    λ front a rest goes less.
    c.acts_of_a_plain_run_fit.ensures set main opening code front a rest consistent is duties goes less in
    follows set main opening code fit [] acts run few (begins set main opening code fit)
