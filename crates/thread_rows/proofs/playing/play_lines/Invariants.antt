use Rattle.thread_rows.specs.Playing.{IsPlaying}
use Rattle.thread_rows.proofs.playing.play_lines.Given as goal

-- An event of each live thread may come.
abbrev pub invariant-loop-line : goal.invariant-loop-line
invariant-loop-line l = IsPlaying l.set l.host l.run.heap l.run.frames.items
