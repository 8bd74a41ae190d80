use Rattle.std.proofs.Common.{◌≡◌, ◌<◌, ℕ, true}
use Rattle.convert_queue.specs.Threads.{has, needs_of, Adds}
use Rattle.convert_queue.proofs.groups.add_needs.Given as goal

abbrev pub invariant-loop-of : goal.invariant-loop-of
invariant-loop-of l = record {
  adds : Adds l.needs l.fn.set l.all;
  all : (a u : ℕ) → a < l.of → has l.set a ≡ true → needs_of l.needs a u ≡ true → has l.all u ≡ true;
}
