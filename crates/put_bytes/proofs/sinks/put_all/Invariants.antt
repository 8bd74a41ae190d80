-- The sink took the first bytes, so far.
use Rattle.std.proofs.Common.{length, ◌-◌, ◌≡◌, ◌≤◌, take}
use Rattle.ap_base.specs.Sinks.{with_bytes}
use Rattle.put_bytes.proofs.sinks.put_all.Given as goal

abbrev pub invariant-loop-taken : goal.invariant-loop-taken
invariant-loop-taken g l = record {
  within : l.taken ≤ length l.bytes;
  took : g.S.Sink.taken l.sink ≡ with_bytes (g.S.Sink.taken l.fn.sink) (take l.taken l.bytes);
  unfailed : g.S.Sink.faults l.sink ≡ g.S.Sink.faults l.fn.sink;
}

abbrev pub decreases-loop-taken : goal.decreases-loop-taken
decreases-loop-taken g l = length l.bytes - l.taken
