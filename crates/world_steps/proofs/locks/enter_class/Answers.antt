use Rattle.run_history.specs.declared.act.PlainKey.TheVariants as plain
use Rattle.plain_model.specs.Steps.{enters}
use Rattle.shared_objects.specs.Worlds.{world_of}
use Rattle.step_forms.specs.Follows.{Goes}
use Rattle.step_forms.proofs.Going.{same_goes}
use Rattle.world_steps.proofs.Worldly.{step_enter_class}
use Rattle.world_steps.proofs.locks.enter_class.Goals as goal

pub returns-clause-step : goal.returns-clause-step
returns-clause-step g c set from =
    let before = g.O.Objects.shown c.args.objects.now in
    let goes : Goes (λ roots taken. enters set (world_of roots before c.args.rest.now) c.args.t (plain.Class
    c.args.class)) c.args.t before c.args.rest.now
    c.enter_key.result before c.enter_key.new.rest = c.enter_key.ensures.step set in
    same_goes (λ roots taken. step_enter_class set (world_of roots before c.args.rest.now) c.args.t taken
    from c.args.class) goes
