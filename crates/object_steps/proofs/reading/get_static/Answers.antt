use Rattle.std.proofs.Common.{refl, ◌∙◌}
use Rattle.ap_base.specs.declared.place.Place.TheVariants.{Static}
use Rattle.shared_objects.specs.Worlds.{world_of}
use Rattle.plain_model.specs.Steps.{reads}
use Rattle.step_forms.proofs.Going.{same_goes}
use Rattle.object_steps.proofs.Fields.{step_get_static}
use Rattle.object_steps.proofs.Stored.{read_goes}
use Rattle.object_steps.proofs.reading.get_static.Goals as goal

pub returns-in-Some-clause-step : goal.returns-in-Some-clause-step
returns-in-Some-clause-step g c set from known =
    let shown = g.O.Objects.shown c.args.objects.now in
    same_goes (λ roots taken. step_get_static set (world_of roots shown c.args.rest.now) c.args.t taken from
    c.args.field)
    (c.in-Some.ensures.first set shown (λ roots taken. reads set (world_of roots shown c.args.rest.now) (Static
    c.args.field.at)) known)

pub returns-clause-step : goal.returns-clause-step
returns-clause-step g c set from known =
    let shown = g.O.Objects.shown c.args.objects.now in
    let goes = same_goes (λ roots taken.
    step_get_static set (world_of roots shown c.args.rest.now) c.args.t taken from c.args.field
    ∙ c.in_default.ensures.first.0 set (world_of roots shown c.args.rest.now) (reads set (world_of roots shown
    c.args.rest.now) (Static c.args.field.at)) refl)
    (read_goes set shown (Static c.args.field.at) c.read_static-item.result c.valued-value.result
    c.valued-value.ensures
    c.read_static-item.ensures.value (λ roots. refl) c.read_static-item.ensures.known c.args.t
    c.args.rest.now known) in
    rw c.in_default.ensures.first.1 goes
