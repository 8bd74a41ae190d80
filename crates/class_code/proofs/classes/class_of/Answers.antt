use Rattle.std.proofs.Common.{length, ap, sym, ◌∙◌}
use Rattle.std.specs.Prelude.{nat_lt}
use Rattle.plain_model.specs.Facts.{class_at}
use Rattle.class_set.specs.Linked.{Linked, class_count}
use Rattle.class_set.specs.Facts.{facts_of}
use Rattle.class_code.specs.Classes.{supertypes_of}
use Rattle.class_code.proofs.Declaring.{same_class}
use Rattle.class_code.proofs.classes.class_of.Goals as goal

pub supertypes_of-requires : goal.supertypes_of-requires
supertypes_of-requires c = c.requires.count ∙ ap class_count (sym c.set-set.ensures)

pub returns : goal.returns
returns c =
    let set = c.args.numbered.now in
    let n = c.args.class in
    let same = c.set-set.ensures in
    same_class set n c.in_ok-supertypes_of.field-0 c.in_ok-dispatch_from.field-0 c.superclass.result c.initialiser_of.result
    (nat_lt n (length c.files.result.now))
    (c.in_ok-supertypes_of.ensures ∙ ap (λ (s : Linked). supertypes_of s n) same) c.in_ok-dispatch_from.ensures
    (c.superclass.ensures ∙ ap (λ (s : Linked). (class_at (facts_of s) n).superclass) same) c.initialiser_of.ensures
    (ap (λ files. nat_lt n (length files)) (c.files.ensures ∙ ap (λ (s : Linked). s.files) same))
