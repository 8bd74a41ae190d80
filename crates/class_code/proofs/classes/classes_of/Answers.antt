use Rattle.std.proofs.Common.{ap, ◌∙◌, arith}
use Rattle.class_set.specs.Linked.{Linked}
use Rattle.class_code.specs.Classes.{class_of}
use Rattle.class_code.proofs.Declaring.{mapped_more}
use Rattle.class_code.proofs.Inheriting.{names_counted}
use Rattle.class_code.proofs.classes.classes_of.Goals as goal

pub overflow_cast-named : goal.overflow_cast-named
overflow_cast-named c =
    let size = names_counted c.args.set.now in
    omega (arith, size)

pub loop-class-preserved : goal.loop-class-preserved
loop-class-preserved c =
    mapped_more (class_of c.args.set.now) c.loop-class.class _ _ _ c.loop-class.invariant
    (c.in_ok-row.ensures ∙ ap (λ (s : Linked). class_of s c.loop-class.class) c.new-numbered.ensures) c.in_ok-push.ensures.items
