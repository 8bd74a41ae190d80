use Rattle.std.proofs.Common.{sym, ◌∙◌}
use Rattle.const_pool.proofs.Slots.{wrong_passes, wrong_stops, wrong_ends}
use Rattle.const_pool.proofs.reading.first_wrong_reference.Goals as goal

pub returns-in-Some : goal.returns-in-Some
returns-in-Some c =
    let slots = c.args.slots.now in
    sym (sym c.loop-index.invariant ∙ wrong_stops slots c.loop-index.index c.index-slots-index.result c.in-Some.wrong c.loop-index-test.true c.index-slots-index.is c.in-Some.ensures)

pub loop-index-preserved : goal.loop-index-preserved
loop-index-preserved c =
    let slots = c.args.slots.now in
    sym (wrong_passes slots c.loop-index.index c.index-slots-index.result c.loop-index-test.true c.index-slots-index.is c.in-None.ensures) ∙ c.loop-index.invariant

pub returns : goal.returns
returns c = sym (sym c.loop-index.invariant ∙ wrong_ends c.args.slots.now c.loop-index.index c.loop-index-test.false)
