use Rattle.std.proofs.lemmas.Result.{err_from_is_err_and}
use Rattle.parsing.proofs.Loops.{goes_on, ends, is_done}
use Rattle.class_items.specs.declared.refusal.ItemRefusal.TheVariants.{OutOfMemory}
use Rattle.class_items.specs.Items.{attribute_at}
use Rattle.class_items.proofs.attribute.some_attributes.Goals as goal

pub returns-in_err-copied_attribute : goal.returns-in_err-copied_attribute
returns-in_err-copied_attribute c =
    let p = err_from_is_err_and c.from_residual.result c.from_residual.ensures.1 in
    rw (p.1, p.2) (ends (attribute_at c.args.pool.now) c.loop.attributes.items c.args.count c.loop.counter
    c.loop.file _ OutOfMemory _ c.loop-test.true c.in_err-copied_attribute.ensures c.loop.invariant)

pub loop-preserved : goal.loop-preserved
loop-preserved c =
    rw c.in_ok-push.ensures.items (goes_on (attribute_at c.args.pool.now) c.loop.attributes.items c.args.count
    c.loop.counter c.loop.file _ _ _ c.loop-test.true c.in_ok-copied_attribute.ensures c.loop.invariant)

pub returns : goal.returns
returns c =
    is_done (attribute_at c.args.pool.now) c.loop.attributes.items c.args.count c.loop.counter c.loop.file _
    c.loop-test.false c.loop.invariant
