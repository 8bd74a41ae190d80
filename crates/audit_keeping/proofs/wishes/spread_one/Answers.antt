use Rattle.std.proofs.Common.{◌∙◌, length, ap}
use Rattle.audit_keeping.proofs.Spreading.{both-long}
use Rattle.audit_keeping.proofs.wishes.spread_one.Goals as goal

pub grow-requires-clause-long : goal.grow-requires-clause-long
grow-requires-clause-long c =
    ap length c.deref_mut.ensures.value ∙ ap length c.in_ok-marks.ensures ∙ both-long c.args.durable.now _ ∙ c.requires.long
