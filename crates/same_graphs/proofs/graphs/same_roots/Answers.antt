use Rattle.std.proofs.Common.{◌≡◌, false, ◌<◌, length, sym, ◌∙◌, arith}
use Rattle.same_graphs.proofs.Alike.{same-at}
use Rattle.same_graphs.proofs.graphs.same_roots.Goals as goal

pub returns-then-not-same_root : goal.returns-then-not-same_root
returns-then-not-same_root c = (
  λ e. absurd (cc),
  λ all.
      let low : c.loop-i.i < length c.args.a.now = omega arith in
      let differs : c.same_root.result ≡ false = c.if-not-same_root.true in
      sym differs ∙ c.same_root.ensures.1 (same-at c.args.a.now c.args.b.now c.index-a-i.result c.index-b-i.result c.loop-i.i
      all low c.index-a-i.is c.index-b-i.is),
)
