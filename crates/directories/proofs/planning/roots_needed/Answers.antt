use Rattle.std.proofs.Common.{arith}
use Rattle.directories.proofs.Plans.{roots_taken}
use Rattle.directories.proofs.planning.roots_needed.Goals as goal

pub loop-entry-preserved : goal.loop-entry-preserved
loop-entry-preserved c =
    omega (
      arith,
      roots_taken c.args.entries.now c.entry-item.result c.loop-entry.entry-index c.loop-entry-test.true c.entry-item.is,
      c.loop-entry.invariant,
      c.one_if_root.ensures,
      c.saturating_add-roots.ensures,
    )
