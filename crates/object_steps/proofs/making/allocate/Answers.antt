use Rattle.std.proofs.Common.{refl, ap}
use Rattle.step_forms.proofs.Making.{enough, made_goes, alloc_limit}
use Rattle.object_steps.proofs.making.allocate.Goals as goal

pub returns-in-Err-clause-step : goal.returns-in-Err-clause-step
returns-in-Err-clause-step g c t rest known =
    alloc_limit (g.C.Types.facts c.args.set.now) t c.args.shape c.args.slots (g.O.Objects.shown
    c.args.objects.now)
    (g.O.Objects.shown c.alloc.new.self) rest c.in-Err.full known c.in-Err.ensures.numbers
    (ap g.O.Objects.shown c.in-Err.ensures.same)
    (c.in-Err.ensures.full.0 refl) c.requires.slots

pub returns-in-Ok-clause-step : goal.returns-in-Ok-clause-step
returns-in-Ok-clause-step g c t rest known =
    made_goes (g.C.Types.facts c.args.set.now) t c.args.shape c.args.slots c.number_of.result c.in-Ok.object
    (g.O.Objects.shown c.args.objects.now) (g.O.Objects.shown c.alloc.new.self) rest known
    c.in-Ok.ensures.made
    c.number_of.ensures.number c.requires.slots (enough _ _ c.in-Ok.ensures.full)
