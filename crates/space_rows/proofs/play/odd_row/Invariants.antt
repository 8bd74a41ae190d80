use Rattle.class_set.specs.Facts.{facts_of}
use Rattle.space_rows.specs.Worlds.{Holds}
use Rattle.space_rows.proofs.play.odd_row.Given as goal

abbrev pub invariant-loop-number : goal.invariant-loop-number
invariant-loop-number l = Holds (facts_of l.classes.set) l.world.spaces l.world.rest l.world.refs.items l.world.next l.world.acts
    l.world.entered
