use Rattle.std.proofs.Common.{ap, ◌∙◌}
use Rattle.std.proofs.lemmas.Result.{IfOk-weaker}
use Rattle.plain_model.specs.Facts.{superclasses_of}
use Rattle.class_set.specs.Linked.{Linked}
use Rattle.class_set.specs.Facts.{facts_of}
use Rattle.class_code.specs.Declarations.{dispatch_in, found_along}
use Rattle.class_code.proofs.Finds.{dispatch_is}
use Rattle.class_code.proofs.classes.dispatch_from.Goals as goal

pub returns : goal.returns
returns c =
    let set = c.args.numbered.now in
    let found = c.in_ok-found.found.items in
    IfOk-weaker c.dispatch_in.result _ _ (λ rows e. e ∙ ap (dispatch_in 0) c.as_slice.ensures.value
    ∙ dispatch_is set c.args.class c.signature_count.result found c.signature_count.ensures c.in_ok-found.ensures.count
    (λ n l. c.in_ok-found.ensures.found n l ∙ ap (λ (s : Linked). found_along s n (superclasses_of (facts_of s) c.args.class)) c.set.ensures))
    c.dispatch_in.ensures
