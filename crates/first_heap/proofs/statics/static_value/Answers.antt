use Rattle.std.proofs.Common.{◌∙◌}
use Rattle.class_set.specs.Facts.{facts_of}
use Rattle.first_heap.proofs.Reaching.{value_told}
use Rattle.first_heap.proofs.statics.static_value.Goals as goal

pub returns : goal.returns
returns c =
    c.first_value.ensures (facts_of c.args.set.now)
    ∙ value_told (facts_of c.args.set.now) c.args.opening.now c.args.set.now.files c.args.field.now c.if-field.false
