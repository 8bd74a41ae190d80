use Rattle.std.proofs.Common.{◌-◌, ◌≡◌, ◌<◌, ◌^◌, ℕ, true}
use Rattle.convert_queue.specs.Threads.{has, needs_of, InGroup, Adds}
use Rattle.convert_queue.proofs.groups.group.Given as goal

abbrev pub invariant-loop-more : goal.invariant-loop-more
invariant-loop-more l = record {
  member : has l.set l.t ≡ true;
  least : (u : ℕ) → has l.set u ≡ true → InGroup (needs_of l.needs) l.t u;
  adds : Adds l.needs l.set l.more;
  all : (a u : ℕ) → a < 64 → has l.set a ≡ true → needs_of l.needs a u ≡ true → has l.more u ≡ true;
}

abbrev pub decreases-loop-more : goal.decreases-loop-more
decreases-loop-more l = 2 ^ 64 - l.set
