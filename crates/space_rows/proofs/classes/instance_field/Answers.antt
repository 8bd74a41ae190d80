use Rattle.std.proofs.Common.{refl, sym, ◌∙◌, subst, arith}
use Rattle.class_set.specs.Facts.{facts_of}
use Rattle.class_set.specs.FoundFields.{IsFoundAs}
use Rattle.space_rows.proofs.classes.instance_field.Goals as goal

pub returns : goal.returns
returns c =
    let f = c.in_ok-field.field in
    let law = c.found_fields_are_where_they_say.ensures c.args.set.now 0 c.args.name.0.now c.args.name.1.now f (sym c.find_field.ensures ∙ c.in_ok-field.was) in
    let slot = subst (λ b. IsFoundAs b (facts_of c.args.set.now) c.args.name.0.now f) c.if-field.false law.1 in
    let count = c.count.ensures in
    let test = c.if-count-field.false in
    (omega (arith, count, test), c.if-field.false, sym c.is_interface.ensures ∙ c.if-is_interface.false, (_, slot, refl))
