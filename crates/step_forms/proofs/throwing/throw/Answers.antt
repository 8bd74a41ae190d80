use Rattle.plain_model.proofs.Consistent.{throwables_there}
use Rattle.step_forms.proofs.throwing.throw.Goals as goal

pub throw_class-requires-clause-there : goal.throw_class-requires-clause-there
throw_class-requires-clause-there g c =
    rw c.thrown.ensures (throwables_there (g.C.Types.facts c.args.set.now) c.args.which)

pub returns-clause-step : goal.returns-clause-step
returns-clause-step g c = rw (← c.thrown.ensures) c.throw_class.ensures.step
