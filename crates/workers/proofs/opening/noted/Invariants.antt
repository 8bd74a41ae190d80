use Rattle.std.proofs.Common.{◌≡◌, take}
use Rattle.workers.specs.Shared.{values_of}
use Rattle.workers.proofs.opening.noted.Given as goal

abbrev pub invariant-loop-fs : goal.invariant-loop-fs
invariant-loop-fs l = values_of l.notes.items ≡ take l.fs-index l.frames.items
