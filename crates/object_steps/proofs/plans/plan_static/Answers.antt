use Rattle.std.proofs.Common.{refl, ◌∙◌, ap, sym}
use Rattle.ap_base.specs.declared.place.Place.TheVariants.{Static}
use Rattle.plain_model.specs.Kinds.{HasKind}
use Rattle.plain_model.specs.Steps.{stores}
use Rattle.shared_objects.specs.Shown.{item_value, static_in}
use Rattle.shared_objects.specs.Worlds.{world_of}
use Rattle.step_forms.specs.Follows.{stored_as}
use Rattle.step_forms.proofs.Going.{same_goes}
use Rattle.object_steps.proofs.Fields.{step_put_static}
use Rattle.object_steps.proofs.Places.{kept_object, narrowed_form, same_form}
use Rattle.object_steps.proofs.plans.plan_static.Goals as goal

pub returns-in-Some-clause-plan : goal.returns-in-Some-clause-plan
returns-in-Some-clause-plan g c set from known =
    let shown = g.O.Objects.shown c.args.objects.now in
    let value = item_value shown.number c.args.value in
    same_goes (λ roots taken. step_put_static set (world_of roots shown c.args.rest.now) c.args.t taken from
    c.args.field value)
    (c.in-Some.ensures.first set shown (λ roots taken. stores set (world_of roots shown c.args.rest.now)
    c.args.field.kind (Static c.args.field.at) value) known)

pub returns-clause-plan : goal.returns-clause-plan
returns-clause-plan g c =
    let shown = g.O.Objects.shown c.args.objects.now in
    let value = item_value shown.number c.args.value in
    let kept = c.narrow.ensures.value shown.number in
    let form : HasKind c.args.field.kind (item_value shown.number c.narrow.result) =
    rw kept (narrowed_form c.args.field.kind value c.requires.kind) in (
      λ set taken roots from.
          step_put_static set (world_of roots shown c.args.rest.now) c.args.t taken from c.args.field value
          ∙ c.in_default.ensures.first.0 set (world_of roots shown c.args.rest.now)
          (stores set (world_of roots shown c.args.rest.now) c.args.field.kind (Static c.args.field.at)
          value) refl
          ∙ ap (stored_as (Static c.args.field.at)) (sym kept),
      record {
        known = c.narrow.ensures.known shown.number c.requires.known;
        place = (
          c.requires.there,
          same_form c.args.field.kind (static_in shown c.args.field.at) (item_value
              shown.number c.narrow.result) c.requires.held form,
        );
      },
      c.in_default.ensures.first.1,
    )

pub returns-clause-here : goal.returns-clause-here
returns-clause-here g c =
    let shown = g.O.Objects.shown c.args.objects.now in
    let kept = c.narrow.ensures.value shown.number in
    record {
      target = c.requires.static_here;
      value = λ n e. c.requires.here n (kept_object c.args.field.kind (item_value shown.number c.args.value)
          n (sym kept ∙ e));
    }

pub returns-clause-kept : goal.returns-clause-kept
returns-clause-kept g c = (c.args.field.kind, c.narrow.ensures.value)
