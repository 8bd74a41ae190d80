use Rattle.set_spaces.proofs.Texts.{name_added}
use Rattle.set_spaces.proofs.roots.slots_of.Goals as goal

pub loop-name-preserved : goal.loop-name-preserved
loop-name-preserved c =
    name_added c.args.names.now c.loop-name.slots c.add.new.self c.loop-name.name-index c.name-item.result
    c.as_slice.result.now c.requires.differ c.loop-name-test.true c.name-item.is c.as_slice.ensures.same
    c.loop-name.invariant c.in_ok-add.ensures.added
