use Rattle.std.proofs.Common.{sym, ◌∙◌, ap}
use Rattle.ap_base.specs.declared.reference.Ref.{Ref}
use Rattle.ap_base.specs.declared.reference.Item.{Item}
use Rattle.natives.specs.declared.requests.Request.{Request}
use Rattle.plain_model.specs.Ends.{wait_of}
use Rattle.plain_model.specs.Steps.{step}
use Rattle.shared_objects.specs.Plain.{plain_request}
use Rattle.shared_objects.specs.Shown.{item_value}
use Rattle.shared_objects.specs.Worlds.{world_of}
use Rattle.request_waits.proofs.Plainly.{goes-on}
use Rattle.request_waits.proofs.Waited.{get-waits, init-waits, new-waits, put-waits}
use Rattle.request_waits.proofs.waits.wait_of.Goals as goal

pub returns-in-New : goal.returns-in-New
returns-in-New g c = record {
  wait = λ roots.
      let facts = g.C.Types.facts c.args.set.now in
      let shown = g.O.Objects.shown c.args.objects.now in
      let world = world_of roots shown c.args.rest.now in
      c.class_wait.ensures.wait ∙ sym (new-waits facts world c.args.t 1 c.in-New.class c.in-New.from)
      ∙ ap (λ (q : Request Ref Item). wait_of (step facts world c.args.t 1 (plain_request shown.number q))) (sym c.in-New.is);
}

pub returns-in-Init : goal.returns-in-Init
returns-in-Init g c = record {
  wait = λ roots.
      let facts = g.C.Types.facts c.args.set.now in
      let shown = g.O.Objects.shown c.args.objects.now in
      let world = world_of roots shown c.args.rest.now in
      c.class_wait-in-Init.ensures.wait ∙ sym (init-waits facts world c.args.t 1 c.in-Init.class c.in-Init.from)
      ∙ ap (λ (q : Request Ref Item). wait_of (step facts world c.args.t 1 (plain_request shown.number q))) (sym c.in-Init.is);
}

pub returns-in-GetStatic : goal.returns-in-GetStatic
returns-in-GetStatic g c = record {
  wait = λ roots.
      let facts = g.C.Types.facts c.args.set.now in
      let shown = g.O.Objects.shown c.args.objects.now in
      let world = world_of roots shown c.args.rest.now in
      c.class_wait-in-GetStatic.ensures.wait
      ∙ sym (get-waits facts world c.args.t 1 c.in-GetStatic.field c.in-GetStatic.from)
      ∙ ap (λ (q : Request Ref Item). wait_of (step facts world c.args.t 1 (plain_request shown.number q)))
      (sym c.in-GetStatic.is);
}

pub returns-in-PutStatic : goal.returns-in-PutStatic
returns-in-PutStatic g c = record {
  wait = λ roots.
      let facts = g.C.Types.facts c.args.set.now in
      let shown = g.O.Objects.shown c.args.objects.now in
      let world = world_of roots shown c.args.rest.now in
      c.class_wait-in-PutStatic.ensures.wait
      ∙ sym (put-waits facts world c.args.t 1 c.in-PutStatic.field (item_value shown.number c.in-PutStatic.value)
      c.in-PutStatic.from)
      ∙ ap (λ (q : Request Ref Item). wait_of (step facts world c.args.t 1 (plain_request shown.number q)))
      (sym c.in-PutStatic.is);
}

pub returns-in_default : goal.returns-in_default
returns-in_default g c = record {
  wait = λ roots.
      let facts = g.C.Types.facts c.args.set.now in
      let shown = g.O.Objects.shown c.args.objects.now in
      let world = world_of roots shown c.args.rest.now in
      sym (goes-on facts world c.args.t 1 shown.number c.args.request.now c.in_default.not-New c.in_default.not-Init
      c.in_default.not-GetStatic c.in_default.not-PutStatic c.in_default.not-Enter c.in_default.not-Join);
}
