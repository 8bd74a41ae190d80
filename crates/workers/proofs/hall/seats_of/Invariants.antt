use Rattle.std.proofs.Common.{◌≡◌, ◌+◌, length}
use Rattle.turnstile.specs.Passes.{IsIdle, IsOf, hands_of}
use Rattle.workers.proofs.Seating.{first_with}
use Rattle.workers.proofs.hall.seats_of.Given as goal

-- the passes of the first n threads but thread 0 are made, and the frames are those of the others
abbrev pub invariant-loop-n : goal.invariant-loop-n
invariant-loop-n g l = record {
  of : IsOf l.first l.turnstile;
  idle : IsIdle l.first;
  hands : hands_of l.first ≡ first_with l.main l.n l.frames.items;
  many : length l.frames.items + l.n ≡ 64;
}
