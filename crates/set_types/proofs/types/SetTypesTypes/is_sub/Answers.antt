use Rattle.std.proofs.Common.{◌≡◌, true, sym, subst}
use Rattle.plain_model.specs.Facts.{is_sub}
use Rattle.class_set.specs.Sets.{IsLinked}
use Rattle.class_set.specs.Facts.{facts_of}
use Rattle.set_types.proofs.types.SetTypesTypes.is_sub.Goals as goal

pub returns-then-class-target : goal.returns-then-class-target
returns-then-class-target c =
    let set = facts_of c.args.self.now in
    let linked = subst IsLinked c.self.view_is c.shapes-shapes.ensures.linked in
    let own : is_sub set c.args.class c.args.class ≡ true =
    c.subtypes_have_their_supertypes_fields.ensures.own set c.args.class
    (c.facts_of_class_sets_meet_what_steps_ask.ensures c.args.self.now linked) in
    sym (subst (λ target. is_sub set c.args.class target ≡ true) c.if-class-target.true own)
