use Rattle.class_set.specs.Facts.{facts_of}
use Rattle.plain_rows.specs.Playing.{IsPlaying}
use Rattle.plain_rows.proofs.play.follow_rows.Given as goal

abbrev pub invariant-loop-row : goal.invariant-loop-row
invariant-loop-row l = IsPlaying (facts_of l.types) l.run
