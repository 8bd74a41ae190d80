use Rattle.std.proofs.Common.{◌<◌, sym, ◌∙◌, subst}
use Rattle.std.specs.Prelude.{codes}
use Rattle.class_set.specs.Linked.{Linked}
use Rattle.class_code.specs.Methods.{method_count}
use Rattle.class_code.proofs.Found.{own_there}
use Rattle.class_code.proofs.classes.initialiser_of.Goals as goal

pub method_number-requires : goal.method_number-requires
method_number-requires c =
    subst (λ (s : Linked). c.in-Some.method.method < method_count s c.in-Some.method.class) c.set-set.ensures
    (own_there c.set-set.result.now (codes "<clinit>") (codes "()V") c.args.class c.in-Some.method
    (sym c.own_method.ensures ∙ c.in-Some.is))
