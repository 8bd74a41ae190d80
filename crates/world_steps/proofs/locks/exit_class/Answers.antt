use Rattle.run_history.specs.declared.act.PlainKey.TheVariants as plain
use Rattle.plain_model.specs.Steps.{exits}
use Rattle.shared_objects.specs.Worlds.{world_of}
use Rattle.step_forms.specs.Follows.{Goes}
use Rattle.step_forms.proofs.Going.{same_goes}
use Rattle.world_steps.proofs.Worldly.{step_exit_class}
use Rattle.world_steps.proofs.locks.exit_class.Goals as goal

pub returns-clause-step : goal.returns-clause-step
returns-clause-step g c from =
    let facts = g.C.Types.facts c.args.set.now in
    let before = g.O.Objects.shown c.args.objects.now in
    let goes : Goes (λ roots taken. exits facts (world_of roots before c.args.rest.now) c.args.t (plain.Class
    c.args.class)) c.args.t before c.args.rest.now
    c.exit_key.result (g.O.Objects.shown c.exit_key.new.objects) c.exit_key.new.rest = c.exit_key.ensures.step in
    same_goes (λ roots taken. step_exit_class facts (world_of roots before c.args.rest.now) c.args.t taken
    from c.args.class) goes
