use Rattle.std.proofs.Common.{◌≡◌, false, ◌<◌, length, sym, ◌∙◌, arith}
use Rattle.same_graphs.proofs.Alike.{same-at}
use Rattle.same_graphs.proofs.graphs.same_nodes.Goals as goal

pub returns-then-not-same_node : goal.returns-then-not-same_node
returns-then-not-same_node c = (
  λ e. absurd (cc),
  λ all.
      let low : c.loop-i.i < length c.args.a.now = omega arith in
      let differs : c.same_node.result ≡ false = c.if-not-same_node.true in
      sym differs ∙ c.same_node.ensures.1 (same-at c.args.a.now c.args.b.now c.index-a-i.result c.index-b-i.result c.loop-i.i
      all low c.index-a-i.is c.index-b-i.is),
)
