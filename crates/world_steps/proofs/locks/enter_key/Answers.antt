use Rattle.std.proofs.Common.{◌∙◌, sym, ap}
use Rattle.world_steps.proofs.Locking.{enter_goes, enter_waits, enter_full, is_taken, not_taken}
use Rattle.world_steps.proofs.locks.enter_key.Goals as goal

pub returns-in-Taken-clause-step : goal.returns-in-Taken-clause-step
returns-in-Taken-clause-step g c set =
    enter_goes set c.args.t (g.O.Objects.shown c.args.objects.now) c.args.rest.now c.args.key c.args.plain
    (g.met.O.Objects.one_key c.args.objects.now) c.requires.monitors c.requires.held c.requires.plain
    c.enter.new.self c.requires.counts
    (sym c.in-Taken.is ∙ c.enter.ensures.answer) (c.enter.ensures.taken c.in-Taken.is)

pub returns-in-Held-clause-step : goal.returns-in-Held-clause-step
returns-in-Held-clause-step g c set =
    enter_waits set c.args.t (g.O.Objects.shown c.args.objects.now) c.args.rest.now c.args.key c.args.plain
    (g.met.O.Objects.one_key c.args.objects.now) c.requires.monitors c.requires.held c.requires.plain
    c.in-Held.u c.enter.new.self
    (sym c.in-Held.is ∙ c.enter.ensures.answer) (c.enter.ensures.same (not_taken c.enter.result (ap is_taken
    c.in-Held.is)))

pub returns-in-Full-clause-step : goal.returns-in-Full-clause-step
returns-in-Full-clause-step g c set =
    enter_full set c.args.t (g.O.Objects.shown c.args.objects.now) c.args.rest.now c.args.key c.args.plain
    (g.met.O.Objects.one_key c.args.objects.now) c.requires.monitors c.requires.held c.requires.plain
    c.enter.new.self
    (sym c.in-Full.is ∙ c.enter.ensures.answer) (c.enter.ensures.same (not_taken c.enter.result (ap is_taken
    c.in-Full.is)))
