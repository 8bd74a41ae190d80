use Rattle.std.proofs.Common.{◌≡◌, drop}
use Rattle.frames.specs.Tables.{caught_by}
use Rattle.frame_steps.proofs.throws.caught.Given as goal

-- no entry so far says anything
abbrev pub invariant-loop-handler : goal.invariant-loop-handler
invariant-loop-handler g l =
    caught_by l.program l.handlers l.at l.class ≡
    caught_by l.program (drop l.handler-index l.handlers) l.at l.class
