use Rattle.object_steps.proofs.Stored.{slot_goes}
use Rattle.object_steps.proofs.commits.commit_slot.Goals as goal

pub returns-clause-step : goal.returns-clause-step
returns-clause-step g c =
    slot_goes (g.O.Objects.shown c.args.objects.now) (g.O.Objects.shown c.store.new.self) c.args.kept
    c.valued-value.result
    c.valued-value.ensures c.args.holder c.args.object c.args.index c.requires.number c.store.ensures.stored
