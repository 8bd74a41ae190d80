use Rattle.std.proofs.Common.{◌≡◌, length, arith, ap, ◌∙◌, refl}
use Rattle.std.proofs.lemmas.List.{take_all}
use Rattle.graph_model.proofs.types.Shape.copy.Goals as goal

pub returns : goal.returns
returns c =
    let fields : c.from_vec.result ≡ c.args.self.now.fields =
    c.from_vec.ensures ∙ c.loop-field.invariant ∙ take_all c.loop-field.field-index c.args.self.now.fields
    (omega (arith, c.loop-field-test.false, ap length c.as_slice-field-items.ensures)) in
    record { same = rw (c.in_ok-copy-2.ensures.same, c.as_slice.ensures.same, fields) refl }
