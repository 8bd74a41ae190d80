use Rattle.std.proofs.Common.{refl}
use Rattle.std.proofs.lemmas.Bool.{false≢true}
use Rattle.step_forms.proofs.Going.{same_goes}
use Rattle.world_steps.proofs.Locking.{exit_goes, exit_throws}
use Rattle.world_steps.proofs.locks.exit_key.Goals as goal

pub returns-in-Ok-clause-step : goal.returns-in-Ok-clause-step
returns-in-Ok-clause-step g c =
    exit_goes (g.C.Types.facts c.args.set.now) c.args.t (g.O.Objects.shown c.args.objects.now)
    c.args.rest.now c.args.key c.args.plain
    (g.met.O.Objects.one_key c.args.objects.now) c.requires.monitors c.requires.held c.requires.plain
    c.exit.new.self
    (c.in-Ok.ensures.owner.0 refl) (c.in-Ok.ensures.left refl)

pub returns-in-Err-clause-step : goal.returns-in-Err-clause-step
returns-in-Err-clause-step g c =
    let facts = g.C.Types.facts c.args.set.now in
    let before = g.O.Objects.shown c.args.objects.now in
    rw (c.in-Err.ensures.same refl) (same_goes (λ roots taken. exit_throws facts c.args.t before
    c.args.rest.now c.args.key c.args.plain
    (g.met.O.Objects.one_key c.args.objects.now) c.requires.monitors c.requires.held c.requires.plain roots
    (λ by. false≢true (c.in-Err.ensures.owner.1 by)))
    (c.throw.ensures.step c.args.t c.args.rest.now c.requires.monitors))
