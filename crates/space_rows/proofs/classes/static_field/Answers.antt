use Rattle.std.proofs.Common.{◌≡◌, inl, inr, ◌-◌, Bool, not, true, false, refl, sym, ◌∙◌, subst, arith}
use Rattle.class_set.specs.Facts.{facts_of}
use Rattle.class_set.specs.FoundFields.{IsFoundAs}
use Rattle.space_rows.proofs.classes.static_field.Goals as goal

is_true : (b : Bool) → not b ≡ false → b ≡ true
is_true true e = refl
is_true false e = cc

pub returns : goal.returns
returns c =
    let f = c.in_ok-field.field in
    let law = c.found_fields_are_where_they_say.ensures c.args.set.now 0 c.args.name.0.now c.args.name.1.now f (sym c.find_field.ensures ∙ c.in_ok-field.was) in
    let is = is_true f.is_static c.if-not-field.false in
    let found = subst (λ b. IsFoundAs b (facts_of c.args.set.now) c.args.name.0.now f) is law.1 in
    let count = c.count.ensures in
    let test = c.if-count-field.false in
    let some = c.if-field-eq0.false in (
      omega (arith, count, test),
      is,
      elim found [
        | inl n ↦ inr (f.at - 1, n.field, (let more = n.numbered in omega (arith, more)), n.there, n.kind, n.class)
        | inr stream ↦ absurd (some stream.number)
      ],
    )
