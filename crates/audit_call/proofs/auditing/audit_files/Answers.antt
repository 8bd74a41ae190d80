use Rattle.std.proofs.Common.{Err, ap, inl, inr, refl, subst}
use Rattle.source_classes.specs.Names.{slashed}
use Rattle.audit_call.specs.Late.{IsLate}
use Rattle.audit_call.proofs.Ending.{answers, late_left}
use Rattle.audit_call.proofs.Keeping.{same_kept}
use Rattle.audit_call.proofs.auditing.audit_files.Goals as goal

pub returns-in-Ok-clause-ends : goal.returns-in-Ok-clause-ends
returns-in-Ok-clause-ends g c =
    inr (record { set = c.in-Ok.set.linked; links = c.in-Ok.ensures.links; ends = c.judge_set-judged.ensures.ends })

pub returns-in-Ok-clause-answers : goal.returns-in-Ok-clause-answers
returns-in-Ok-clause-answers g c files told =
    answers (g.C.ClassSource.left c.args.source) (slashed c.args.main.now) _ _ _ _ c.judge_set-judged.result.status files told
    (returns-in-Ok-clause-ends g c)

pub returns-in-Ok-clause-left : goal.returns-in-Ok-clause-left
returns-in-Ok-clause-left g c files told =
    let whole = c.in-Ok.ensures.whole files told in
    late_left files (g.C.ClassSource.left c.read_set.new.source) c.judge_set-judged.result.status whole.0 whole.1
    c.judge_set-judged.ensures.late

pub returns-in-Err-clause-ends : goal.returns-in-Err-clause-ends
returns-in-Err-clause-ends g c = inl (record { cause = c.in-Err.ensures.refused; untouched = refl; same = refl })

pub returns-in-Err-clause-answers : goal.returns-in-Err-clause-answers
returns-in-Err-clause-answers g c files told =
    answers (g.C.ClassSource.left c.args.source) (slashed c.args.main.now) _ _ _ _ c.in-Err.status files told
    (returns-in-Err-clause-ends g c)

pub returns-in-Err-clause-before_kept : goal.returns-in-Err-clause-before_kept
returns-in-Err-clause-before_kept g c = same_kept (g.I.Image.told c.args.before)

pub returns-in-Err-clause-after_kept : goal.returns-in-Err-clause-after_kept
returns-in-Err-clause-after_kept g c = same_kept (g.J.Image.told c.args.after)

pub returns-in-Ok-clause-source_fault : goal.returns-in-Ok-clause-source_fault
returns-in-Ok-clause-source_fault g c = λ is. inr (c.judge_set-judged.ensures.source_fault is)

pub returns-in-Err-clause-source_fault : goal.returns-in-Err-clause-source_fault
returns-in-Err-clause-source_fault g c = λ is. inl (c.in-Err.ensures.cause (ap (λ s. Err s) is))

pub returns-in-Err-clause-image_fault : goal.returns-in-Err-clause-image_fault
returns-in-Err-clause-image_fault g c = λ is. absurd (c.in-Err.ensures.no_image is)

pub returns-in-Err-clause-sink_fault : goal.returns-in-Err-clause-sink_fault
returns-in-Err-clause-sink_fault g c = λ is. absurd (c.in-Err.ensures.no_sink is)

pub returns-in-Ok-clause-no_words : goal.returns-in-Ok-clause-no_words
returns-in-Ok-clause-no_words g c = λ is. subst IsLate is c.judge_set-judged.ensures.late
