use Rattle.durable_run.specs.Apart.{PauseOn}
use Rattle.durable_run.specs.Passed.{AreOf}
use Rattle.workers.proofs.seat.begins.Given as goal

-- each turn that has begun so far pauses
abbrev pub invariant-loop-pauses : goal.invariant-loop-pauses
invariant-loop-pauses g l = record {
  on : PauseOn (g.H.Host.setting l.host) l.pauses l.fn.frames l.frames;
  of : AreOf (g.H.Host.setting l.host).program l.frames.frames;
}
