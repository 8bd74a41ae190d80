use Rattle.std.proofs.Common.{◌≡◌, false, ◌<◌, length, sym, ◌∙◌, arith}
use Rattle.directories.proofs.Agreements.{same_at}
use Rattle.directories.proofs.agreeing.same_fields.Goals as goal

pub returns-then-not-is_same_field : goal.returns-then-not-is_same_field
returns-then-not-is_same_field c = (
  λ e. absurd (cc),
  λ all.
      let low : c.loop-i.i < length c.args.fields.now = omega arith in
      let high : c.loop-i.i < length c.args.others.now = omega arith in
      let differs : c.is_same_field.result ≡ false = c.if-not-is_same_field.true in
      sym differs ∙ c.is_same_field.ensures.1 (same_at c.args.fields.now c.args.others.now c.index-fields-i.result c.index-others-i.result c.loop-i.i
      all low high c.index-fields-i.is c.index-others-i.is),
)
