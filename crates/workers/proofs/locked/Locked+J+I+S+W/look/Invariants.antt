use Rattle.std.proofs.Common.{◌≡◌}
use Rattle.workers.specs.declared.locked.Call.TheVariants.{Done}
use Rattle.workers.proofs.locked.Locked+J+I+S+W.look.Given as goal

-- some thread may live still
abbrev pub invariant-loop-n : goal.invariant-loop-n
invariant-loop-n g l = l.call ≡ Done → ⊥
