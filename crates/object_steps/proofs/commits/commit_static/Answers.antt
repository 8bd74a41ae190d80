use Rattle.object_steps.proofs.Stored.{static_goes}
use Rattle.object_steps.proofs.commits.commit_static.Goals as goal

pub returns-clause-step : goal.returns-clause-step
returns-clause-step g c =
    static_goes (g.O.Objects.shown c.args.objects.now) (g.O.Objects.shown c.store_static.new.self)
    c.args.kept c.valued-value.result
    c.valued-value.ensures c.args.field c.store_static.ensures.stored
