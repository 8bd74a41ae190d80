use Rattle.std.proofs.Common.{◌≡◌, drop, map}
use Rattle.plain_model.specs.Ends.{first_uncaught}
use Rattle.shared_objects.specs.Worlds.{plain_thread}
use Rattle.durable_run.proofs.parts.first_uncaught.Given as goal

-- none of the first n threads was ended by a throwable
abbrev pub invariant-loop-n : goal.invariant-loop-n
invariant-loop-n l = record {
  rest : first_uncaught 0 (map plain_thread l.threads) ≡ first_uncaught l.n (map plain_thread (drop l.n l.threads));
}
