use Rattle.thread_rows.specs.Playing.{IsPlaying}
use Rattle.thread_rows.proofs.playing.chosen.Given as goal

-- An event of each live thread may come.
abbrev pub invariant-loop : goal.invariant-loop
invariant-loop l = IsPlaying l.set l.host l.run.heap l.run.frames.items
