use Rattle.std.specs.Prelude.{◌≡◌, drop}
use Rattle.shared_objects.specs.Threads.{started_from}
use Rattle.shared_objects.proofs.threads.Threads.started.Given as goal

abbrev pub invariant-loop-place : goal.invariant-loop-place
invariant-loop-place l = started_from 0 l.self l.object ≡ started_from l.place (drop l.place l.self) l.object
