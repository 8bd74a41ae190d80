use Rattle.std.proofs.Common.{◌≡◌, ◌++◌}
use Rattle.std.specs.List.{flat_map, range_with_len}
use Rattle.statuses.specs.Statuses.{wait_text, wait_of}
use Rattle.statuses.proofs.texts.put_waits.Given as goal

abbrev pub invariant-loop-number : goal.invariant-loop-number
invariant-loop-number l =
    l.out.items ≡ l.fn.out.items ++ flat_map (λ thread. wait_text thread (wait_of l.waits thread)) (range_with_len 0 l.number)
