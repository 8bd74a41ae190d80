use Rattle.thread_rows.specs.Playing.{IsPlaying}
use Rattle.thread_rows.proofs.playing.play.Given as goal

-- An event of each live thread may come.
abbrev pub invariant-loop-word : goal.invariant-loop-word
invariant-loop-word l = IsPlaying l.set l.host l.run.heap l.run.frames.items
