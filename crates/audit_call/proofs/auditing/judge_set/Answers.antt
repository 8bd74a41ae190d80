use Rattle.std.proofs.Common.{inl, inr, refl}
use Rattle.audit_call.proofs.Keeping.{same_kept}
use Rattle.audit_call.proofs.auditing.judge_set.Goals as goal

pub returns-in-Ok-clause-ends : goal.returns-in-Ok-clause-ends
returns-in-Ok-clause-ends g c =
    inr (record { records = c.in-Ok.read; read = c.in-Ok.ensures.both; ends = c.judge_images.ensures.ends })

pub returns-in-Err-clause-ends : goal.returns-in-Err-clause-ends
returns-in-Err-clause-ends g c = inl (record { lacks = c.in-Err.ensures.lacks; untouched = refl; quiet = refl })

pub returns-in-Err-clause-before_kept : goal.returns-in-Err-clause-before_kept
returns-in-Err-clause-before_kept g c = same_kept (g.I.Image.told c.args.before)

pub returns-in-Err-clause-after_kept : goal.returns-in-Err-clause-after_kept
returns-in-Err-clause-after_kept g c = same_kept (g.J.Image.told c.args.after)
