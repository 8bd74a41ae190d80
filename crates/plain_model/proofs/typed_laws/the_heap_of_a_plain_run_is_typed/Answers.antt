use Rattle.plain_model.proofs.TypedRuns.{heap_is_of_set, heap_is_typed}
use Rattle.plain_model.proofs.typed_laws.the_heap_of_a_plain_run_is_typed.Goals as goal

pub returns-clause-of_set : goal.returns-clause-of_set
returns-clause-of_set g c set main opening code acts complete is run =
    heap_is_of_set set main opening code complete is acts run

pub returns-clause-typed : goal.returns-clause-typed
returns-clause-typed g c set main opening code acts consistent is duties run =
    heap_is_typed set main opening code consistent is duties acts run
