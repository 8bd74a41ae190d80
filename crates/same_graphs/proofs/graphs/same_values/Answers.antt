use Rattle.std.proofs.Common.{◌≡◌, false, ◌<◌, length, sym, ◌∙◌, arith}
use Rattle.same_graphs.proofs.graphs.same_values.Goals as goal

pub returns-then-not-same_value : goal.returns-then-not-same_value
returns-then-not-same_value c = (
  λ e. absurd (cc),
  λ all.
      let differs : c.same_value.result ≡ false = c.if-not-same_value.true in
      sym differs ∙ c.same_value.ensures.1 (let same = all in cc),
)
