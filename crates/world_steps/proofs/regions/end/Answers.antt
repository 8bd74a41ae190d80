use Rattle.std.proofs.Common.{◌<◌, ◌∙◌, sym, arith}
use Rattle.shared_objects.specs.Worlds.{world_of}
use Rattle.step_forms.proofs.Going.{same_goes}
use Rattle.world_steps.proofs.Running.{depth_plain}
use Rattle.world_steps.proofs.Resting.{end_goes}
use Rattle.world_steps.proofs.Worldly.{end_outside, end_inside}
use Rattle.world_steps.proofs.regions.end.Goals as goal

pub returns-then-depth-eq0-clause-step : goal.returns-then-depth-eq0-clause-step
returns-then-depth-eq0-clause-step g c from =
    let facts = g.C.Types.facts c.args.set.now in
    let before = g.O.Objects.shown c.args.objects.now in
    let rest = c.args.rest.now in
    same_goes (λ roots taken. end_outside facts (world_of roots before rest) c.args.t taken from
    (depth_plain rest.threads c.args.t ∙ sym c.depth.ensures.depth ∙ c.if-depth-eq0.true))
    (c.throw.ensures.step c.args.t rest c.requires.monitors)

pub returns-clause-step : goal.returns-clause-step
returns-clause-step g c from =
    let facts = g.C.Types.facts c.args.set.now in
    let before = g.O.Objects.shown c.args.objects.now in
    let rest = c.args.rest.now in
    let some : 0 < c.depth.result = omega (arith, c.if-depth-eq0.false) in
    end_goes c.args.t before rest c.requires.monitors
    (λ roots. end_inside facts (world_of roots before rest) c.args.t 1 from c.depth.result
    (depth_plain rest.threads c.args.t ∙ sym c.depth.ensures.depth) some)
    c.end.new.self c.end.ensures.higher
