use Rattle.std.proofs.Common.{refl, sym, ◌∙◌, ap}
use Rattle.ap_base.specs.declared.reference.Ref.{Ref}
use Rattle.run_types.specs.declared.key.Key.{Key}
use Rattle.run_types.specs.declared.key.Key.TheVariants as key_of
use Rattle.natives.specs.declared.requests.Request.TheVariants as ask
use Rattle.run_history.specs.declared.act.PlainKey.TheVariants as plain
use Rattle.plain_model.specs.Ends.{wait_of}
use Rattle.plain_model.specs.Steps.{step}
use Rattle.shared_objects.specs.Plain.{plain_request}
use Rattle.shared_objects.specs.Worlds.{number_or, world_of}
use Rattle.step_forms.proofs.Kept.{some_of}
use Rattle.world_steps.proofs.Worldly.{enter_none, enter_some, step_enter_class}
use Rattle.request_waits.proofs.Waited.{monitor-waits}
use Rattle.request_waits.proofs.waits.enter_wait.Goals as goal

pub returns-in-Class : goal.returns-in-Class
returns-in-Class g c = record {
  wait = λ set roots from.
      let shown = g.O.Objects.shown c.args.objects.now in
      let rest = c.args.rest.now in
      let world = world_of roots shown rest in
      c.monitor_wait.ensures.wait
      ∙ sym (monitor-waits set c.args.t shown rest (key_of.Class c.in-Class.class) (plain.Class c.in-Class.class) roots
      (g.met.O.Objects.one_key c.args.objects.now) c.requires.monitors tt refl)
      ∙ ap wait_of (sym (step_enter_class set world c.args.t 1 from c.in-Class.class))
      ∙ ap (λ (k : Key Ref). wait_of (step set world c.args.t 1 (plain_request shown.number (ask.Enter from k))))
      (sym c.in-Class.is);
}

pub returns-in-Some : goal.returns-in-Some
returns-in-Some g c = record {
  wait = λ set roots from.
      let shown = g.O.Objects.shown c.args.objects.now in
      let rest = c.args.rest.now in
      let world = world_of roots shown rest in
      let n = c.in-Some.field-0 in
      let number = c.in-Some.ensures.number in
      let own = c.key_of.ensures.number ∙ number in
      c.monitor_wait-in-Some.ensures.wait
      ∙ sym (monitor-waits set c.args.t shown rest (key_of.Object c.key_of.result) (plain.Object n) roots
      (g.met.O.Objects.one_key c.args.objects.now) c.requires.monitors (some_of own, c.key_of.ensures.key)
      (ap (λ o. plain.Object (number_or o)) (sym own)))
      ∙ ap wait_of (sym (enter_some set world c.args.t 1 from (shown.number c.in-Object.object) n number
      c.in-Some.ensures.below))
      ∙ ap (λ (k : Key Ref). wait_of (step set world c.args.t 1 (plain_request shown.number (ask.Enter from k))))
      (sym c.in-Object.is);
}

pub returns-in-None : goal.returns-in-None
returns-in-None g c = record {
  wait = λ set roots from.
      let shown = g.O.Objects.shown c.args.objects.now in
      let rest = c.args.rest.now in
      let world = world_of roots shown rest in
      ap wait_of (sym (enter_none set world c.args.t 1 from (shown.number c.in-Object.object) c.in-None.ensures.number))
      ∙ ap (λ (k : Key Ref). wait_of (step set world c.args.t 1 (plain_request shown.number (ask.Enter from k))))
      (sym c.in-Object.is);
}
