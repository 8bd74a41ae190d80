use Rattle.std.proofs.Common.{sym, ◌∙◌}
use Rattle.plain_model.specs.Facts.{is_sub}
use Rattle.class_set.specs.Facts.{facts_of}
use Rattle.class_code.proofs.Subtypes.{kept, left_out}
use Rattle.class_code.proofs.classes.supertypes_of.Goals as goal
use Rattle.class_code.proofs.classes.supertypes_of.Goals.{then-is_sub+in_ok-push, else-is_sub}

pub loop-above-preserved : goal.loop-above-preserved
loop-above-preserved c =
    let p = is_sub (facts_of c.args.set.now) c.args.class in
    let n = c.loop-above.above in
    elim c.if-is_sub.branch [
      | then-is_sub+in_ok-push w ↦
          rw w.supertypes-is (kept p n _ _ c.loop-above.invariant (sym c.is_sub.ensures ∙ w.if-is_sub.true) w.in_ok-push.ensures.items)
      | else-is_sub w ↦ rw w.supertypes-is (left_out p n _ c.loop-above.invariant (sym c.is_sub.ensures ∙ w.if-is_sub.false))
    ]
