-- The logs so far are empty.
use Rattle.std.proofs.Common.{◌≡◌, ◌≤◌, ℕ, length, slice_index_or}
use Rattle.std.specs.Prelude.{vec_capacity}
use Rattle.region_logs.specs.Logs.{empty_log}
use Rattle.region_logs.proofs.logs.empty_logs.Given as goal

abbrev pub invariant-loop-n : goal.invariant-loop-n
invariant-loop-n l = record {
  count : length l.all.items ≡ l.n;
  room : 64 ≤ vec_capacity l.all;
  empty : (t : ℕ) → slice_index_or l.all.items t (empty_log t) ≡ empty_log t;
}
