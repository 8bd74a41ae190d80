use Rattle.std.proofs.Common.{ap, arith, length}
use Rattle.image_compact.proofs.Plans.{lines_next}
use Rattle.image_compact.proofs.planning.count_lines.Goals as goal

pub loop-node-preserved : goal.loop-node-preserved
loop-node-preserved c =
    omega (
      arith,
      lines_next c.args.nodes.now c.loop-node.node-index c.node-item.result c.loop-node-test.true c.node-item.is,
      c.loop-node.invariant,
      c.saturating_add-count.ensures,
      ap length c.values.ensures.same,
    )
