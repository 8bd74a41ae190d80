use Rattle.std.proofs.Common.{arith}
use Rattle.class_items.proofs.Past.{each_kind}
use Rattle.class_items.proofs.kinds.DescriptorKinds.of.Goals as goal

pub returns : goal.returns
returns c =
    each_kind c.args.pool.now c.loop-index.kinds.items c.loop-index.index
    (omega (arith, c.loop-index.invariant.count, c.loop-index.kinds.ok))
    (omega (arith, c.len-index-end.ensures.len, c.loop-index-test.false)) c.loop-index.invariant.each
