use Rattle.std.proofs.Common.{◌≡◌, ◌≤◌, length, take, not}
use Rattle.std.specs.Prelude.{filter}
use Rattle.live_heap.specs.Views.{is_null}
use Rattle.live_heap.proofs.looks.count_held.Given as goal

abbrev pub invariant-loop-value : goal.invariant-loop-value
invariant-loop-value l = record {
  count : l.count ≡ length (filter (λ v. not (is_null v)) (take l.value-index l.values));
  few : l.count ≤ l.value-index;
}
