use Rattle.std.proofs.Common.{◌<◌, ◌∙◌, length, arith}
use Rattle.frame_cells.proofs.Inserts.{carries-more}
use Rattle.frame_cells.proofs.stack.CellStack.insert.Goals as goal

pub loop-i-preserved : goal.loop-i-preserved
loop-i-preserved g c =
    let l = c.loop-i in
    let lt : l.i < length l.self.entries = omega (
      arith,
      l.invariant.0.long,
      c.loop-i-test.true,
      c.len-i-end.ensures.len,
    )
    in (
      rw c.set.ensures.entries (carries-more c.args.self.now.entries l.self.entries c.args.at l.i c.args.value l.carried
          c.get-next.result l.invariant.0 lt c.get-next.ensures),
      c.set.ensures.ready ∙ l.invariant.1,
    )
