use Rattle.audit_call.proofs.Keeping.{same_kept}
use Rattle.image_commands.proofs.auditing.untouched.Goals as goal

pub returns-clause-before_kept : goal.returns-clause-before_kept
returns-clause-before_kept g c = same_kept (g.I.Image.told c.args.before)

pub returns-clause-after_kept : goal.returns-clause-after_kept
returns-clause-after_kept g c = same_kept (g.J.Image.told c.args.after)
