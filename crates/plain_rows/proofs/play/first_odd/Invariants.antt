use Rattle.class_set.specs.Facts.{facts_of}
use Rattle.plain_rows.specs.Playing.{IsPlaying}
use Rattle.plain_rows.proofs.play.first_odd.Given as goal

abbrev pub invariant-loop-number : goal.invariant-loop-number
invariant-loop-number l = IsPlaying (facts_of l.types) l.run
