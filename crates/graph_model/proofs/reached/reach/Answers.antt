use Rattle.std.proofs.Common.{◌≡◌, ◌↔◌, ℕ, List, length}
use Rattle.std.specs.Prelude.{All, Contains, filter}
use Rattle.std.specs.List.{range_with_len}
use Rattle.std.specs.List.Sorted.{IsStrictlyIncreasing}
use Rattle.std.proofs.lemmas.Result.{IfOk-weaker}
use Rattle.graph_model.specs.declared.types.Value.{Value}
use Rattle.graph_model.specs.declared.types.Heap.{Heap}
use Rattle.graph_model.specs.Heaps.{has_number, IsSound, IsBelow}
use Rattle.graph_model.specs.Canon.{found_from}
use Rattle.graph_model.specs.Reach.{IsReached}
use Rattle.graph_model.proofs.Ascending.{filter_range-increasing, Contains-filter_range}
use Rattle.graph_model.proofs.FoundAfter.{found_from-below, found_from-exact}
use Rattle.graph_model.proofs.reached.reach.Goals as goal

exact : (heap : Heap) (start : List Value) → IsSound heap → All (IsBelow (length heap.objects)) start → (n : ℕ)
    → Contains (filter (has_number (found_from heap start)) (range_with_len 0 (length heap.objects))) n ↔ IsReached heap start n
exact heap start sound below n =
    let has = Contains-filter_range (has_number (found_from heap start)) (length heap.objects) (found_from-below heap start sound below) n in
    let found = found_from-exact heap start sound below n in
    (λ c. found.0 (has.0 c), λ r. has.1 (found.1 r))

pub returns-clause-ascending : goal.returns-clause-ascending
returns-clause-ascending c =
    let numbering = c.in_ok-of.field-0 in
    IfOk-weaker c.ascending-2.result
    (λ r. r.items ≡ filter (has_number numbering.numbers) (range_with_len 0 numbering.objects))
    (λ r. IsStrictlyIncreasing r.items)
    (λ r e. rw e (filter_range-increasing (has_number numbering.numbers) numbering.objects)) c.ascending-2.ensures

pub returns-clause-exact : goal.returns-clause-exact
returns-clause-exact c =
    let numbering = c.in_ok-of.field-0 in
    IfOk-weaker c.ascending-2.result
    (λ r. r.items ≡ filter (has_number numbering.numbers) (range_with_len 0 numbering.objects))
    (λ r. (n : ℕ) → Contains r.items n ↔ IsReached c.args.heap.now c.args.start.now n)
    (λ r e n. rw (e, c.in_ok-of.ensures.numbers, c.in_ok-of.ensures.objects)
    (exact c.args.heap.now c.args.start.now c.requires.sound c.requires.start n)) c.ascending-2.ensures
