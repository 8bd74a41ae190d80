use Rattle.std.proofs.Common.{rules, refl, ap, ◌∙◌, [], subst, w32}
use Rattle.std.proofs.lemmas.Int.{to_z-of_z}
use Rattle.std.proofs.lemmas.Option.{slice_get_within}
use Rattle.natives.specs.declared.requests.Request.TheVariants as ask
use Rattle.plain_model.proofs.SetHeaps.{form_is}
use Rattle.shared_objects.specs.Worlds.{world_of}
use Rattle.step_forms.proofs.Going.{asked, same_goes}
use Rattle.step_forms.proofs.Becoming.{quiet_becomes}
use Rattle.shared_steps.proofs.Asking.{asks_is, class_there, field_there, held_kind, broken_goes, step_raise, quiet_output}
use Rattle.shared_steps.proofs.Asking.{quiet_behind, quiet_faults, behind_is, output_is, faults_are, share_is, given_none, given_some, may_is}
use Rattle.shared_steps.specs.Output.{IsSilent}
use Rattle.shared_steps.proofs.step.take_step.Goals as goal

pub returns-in-Pause-clause-step : goal.returns-in-Pause-clause-step
returns-in-Pause-clause-step g c =
    let facts = g.C.Types.facts c.args.set.now in
    let shown = g.O.Objects.shown c.args.objects.now in
    asked facts c.args.t c.in-Pause.is (c.pause.ensures.step facts c.args.t c.args.rest.now shown (record {
      class
          = 0;
      method = 0;
      pc = 0;
    }) c.requires.agrees.monitors)

pub returns-in-Pause-clause-output : goal.returns-in-Pause-clause-output
returns-in-Pause-clause-output g c = quiet_output _ _ _ _ c.in-Pause.is refl

pub returns-in-Pause-clause-behind : goal.returns-in-Pause-clause-behind
returns-in-Pause-clause-behind g c = quiet_behind _ _ _ _ c.in-Pause.is refl

pub returns-in-Pause-clause-cause : goal.returns-in-Pause-clause-cause
returns-in-Pause-clause-cause g c = quiet_faults _ _ _ _ c.in-Pause.is refl

pub returns-in-Broken-clause-step : goal.returns-in-Broken-clause-step
returns-in-Broken-clause-step g c =
    let facts = g.C.Types.facts c.args.set.now in
    let shown = g.O.Objects.shown c.args.objects.now in
    asked facts c.args.t c.in-Broken.is (broken_goes facts c.args.t shown c.args.rest.now c.in-Broken.fault
    c.requires.agrees.monitors)

pub returns-in-Broken-clause-output : goal.returns-in-Broken-clause-output
returns-in-Broken-clause-output g c = quiet_output _ _ _ _ c.in-Broken.is refl

pub returns-in-Broken-clause-behind : goal.returns-in-Broken-clause-behind
returns-in-Broken-clause-behind g c = quiet_behind _ _ _ _ c.in-Broken.is refl

pub returns-in-Broken-clause-cause : goal.returns-in-Broken-clause-cause
returns-in-Broken-clause-cause g c = quiet_faults _ _ _ _ c.in-Broken.is refl

pub new_object-requires-clause-class : goal.new_object-requires-clause-class
new_object-requires-clause-class g c =
    let facts = g.C.Types.facts c.args.set.now in
    let asks = asks_is c.in-New.is c.requires.asks in
    asks.fit.0

pub new_object-requires-clause-there : goal.new_object-requires-clause-there
new_object-requires-clause-there g c =
    let facts = g.C.Types.facts c.args.set.now in
    let asks = asks_is c.in-New.is c.requires.asks in
    class_there c.requires.agrees c.in-New.class asks.fit.0

pub returns-in-New-clause-step : goal.returns-in-New-clause-step
returns-in-New-clause-step g c =
    let facts = g.C.Types.facts c.args.set.now in
    let shown = g.O.Objects.shown c.args.objects.now in
    asked facts c.args.t c.in-New.is (c.new_object.ensures.step c.in-New.from)

pub returns-in-New-clause-output : goal.returns-in-New-clause-output
returns-in-New-clause-output g c = quiet_output _ _ _ _ c.in-New.is refl

pub returns-in-New-clause-behind : goal.returns-in-New-clause-behind
returns-in-New-clause-behind g c = quiet_behind _ _ _ _ c.in-New.is refl

pub returns-in-New-clause-cause : goal.returns-in-New-clause-cause
returns-in-New-clause-cause g c = quiet_faults _ _ _ _ c.in-New.is refl

pub new_array-requires-clause-class : goal.new_array-requires-clause-class
new_array-requires-clause-class g c =
    let facts = g.C.Types.facts c.args.set.now in
    let asks = asks_is c.in-NewArray.is c.requires.asks in
    asks.fit.0

pub new_array-requires-clause-elements : goal.new_array-requires-clause-elements
new_array-requires-clause-elements g c =
    let facts = g.C.Types.facts c.args.set.now in
    let asks = asks_is c.in-NewArray.is c.requires.asks in
    asks.fit.1

pub returns-in-NewArray-clause-step : goal.returns-in-NewArray-clause-step
returns-in-NewArray-clause-step g c =
    let facts = g.C.Types.facts c.args.set.now in
    let shown = g.O.Objects.shown c.args.objects.now in
    asked facts c.args.t c.in-NewArray.is (rw (← to_z-of_z w32 c.in-NewArray.length (search rules))
    (c.new_array.ensures.step c.args.t c.args.rest.now c.in-NewArray.from c.requires.agrees.monitors))

pub returns-in-NewArray-clause-output : goal.returns-in-NewArray-clause-output
returns-in-NewArray-clause-output g c = quiet_output _ _ _ _ c.in-NewArray.is refl

pub returns-in-NewArray-clause-behind : goal.returns-in-NewArray-clause-behind
returns-in-NewArray-clause-behind g c = quiet_behind _ _ _ _ c.in-NewArray.is refl

pub returns-in-NewArray-clause-cause : goal.returns-in-NewArray-clause-cause
returns-in-NewArray-clause-cause g c = quiet_faults _ _ _ _ c.in-NewArray.is refl

pub returns-in-NewText-clause-step : goal.returns-in-NewText-clause-step
returns-in-NewText-clause-step g c =
    let facts = g.C.Types.facts c.args.set.now in
    let shown = g.O.Objects.shown c.args.objects.now in
    asked facts c.args.t c.in-NewText.is (rw (← to_z-of_z w32 c.in-NewText.length (search rules))
    (c.new_text.ensures.step c.args.t c.args.rest.now c.in-NewText.from c.requires.agrees.monitors))

pub returns-in-NewText-clause-output : goal.returns-in-NewText-clause-output
returns-in-NewText-clause-output g c = quiet_output _ _ _ _ c.in-NewText.is refl

pub returns-in-NewText-clause-behind : goal.returns-in-NewText-clause-behind
returns-in-NewText-clause-behind g c = quiet_behind _ _ _ _ c.in-NewText.is refl

pub returns-in-NewText-clause-cause : goal.returns-in-NewText-clause-cause
returns-in-NewText-clause-cause g c = quiet_faults _ _ _ _ c.in-NewText.is refl

pub get_static-requires-clause-class : goal.get_static-requires-clause-class
get_static-requires-clause-class g c =
    let facts = g.C.Types.facts c.args.set.now in
    let asks = asks_is c.in-GetStatic.is c.requires.asks in
    class_there c.requires.agrees c.in-GetStatic.field.class asks.fit.0

pub get_static-requires-clause-there : goal.get_static-requires-clause-there
get_static-requires-clause-there g c =
    let facts = g.C.Types.facts c.args.set.now in
    let asks = asks_is c.in-GetStatic.is c.requires.asks in
    field_there c.requires.agrees c.in-GetStatic.field asks.fit

pub get_static-requires-clause-static_here : goal.get_static-requires-clause-static_here
get_static-requires-clause-static_here g c =
    let facts = g.C.Types.facts c.args.set.now in
    let asks = asks_is c.in-GetStatic.is c.requires.asks in
    asks.here.0

pub get_static-requires-clause-here : goal.get_static-requires-clause-here
get_static-requires-clause-here g c =
    let facts = g.C.Types.facts c.args.set.now in
    let asks = asks_is c.in-GetStatic.is c.requires.asks in
    asks.here.1

pub returns-in-GetStatic-clause-step : goal.returns-in-GetStatic-clause-step
returns-in-GetStatic-clause-step g c =
    let facts = g.C.Types.facts c.args.set.now in
    let shown = g.O.Objects.shown c.args.objects.now in
    asked facts c.args.t c.in-GetStatic.is (c.get_static.ensures.step facts c.in-GetStatic.from
    c.requires.agrees.monitors)

pub returns-in-GetStatic-clause-output : goal.returns-in-GetStatic-clause-output
returns-in-GetStatic-clause-output g c = quiet_output _ _ _ _ c.in-GetStatic.is refl

pub returns-in-GetStatic-clause-behind : goal.returns-in-GetStatic-clause-behind
returns-in-GetStatic-clause-behind g c = quiet_behind _ _ _ _ c.in-GetStatic.is refl

pub returns-in-GetStatic-clause-cause : goal.returns-in-GetStatic-clause-cause
returns-in-GetStatic-clause-cause g c = quiet_faults _ _ _ _ c.in-GetStatic.is refl

pub put_static-requires-clause-class : goal.put_static-requires-clause-class
put_static-requires-clause-class g c =
    let facts = g.C.Types.facts c.args.set.now in
    let asks = asks_is c.in-PutStatic.is c.requires.asks in
    class_there c.requires.agrees c.in-PutStatic.field.class asks.fit.0.0

pub put_static-requires-clause-there : goal.put_static-requires-clause-there
put_static-requires-clause-there g c =
    let facts = g.C.Types.facts c.args.set.now in
    let asks = asks_is c.in-PutStatic.is c.requires.asks in
    field_there c.requires.agrees c.in-PutStatic.field asks.fit.0

pub put_static-requires-clause-held : goal.put_static-requires-clause-held
put_static-requires-clause-held g c =
    let facts = g.C.Types.facts c.args.set.now in
    let asks = asks_is c.in-PutStatic.is c.requires.asks in
    held_kind c.requires.agrees c.in-PutStatic.field asks.fit.0

pub put_static-requires-clause-kind : goal.put_static-requires-clause-kind
put_static-requires-clause-kind g c =
    let facts = g.C.Types.facts c.args.set.now in
    let asks = asks_is c.in-PutStatic.is c.requires.asks in
    form_is (world_of [] (g.O.Objects.shown c.args.objects.now) c.args.rest.now) c.in-PutStatic.field.kind _
    asks.fit.1

pub put_static-requires-clause-known : goal.put_static-requires-clause-known
put_static-requires-clause-known g c =
    let facts = g.C.Types.facts c.args.set.now in
    let asks = asks_is c.in-PutStatic.is c.requires.asks in
    asks.known

pub put_static-requires-clause-static_here : goal.put_static-requires-clause-static_here
put_static-requires-clause-static_here g c =
    let facts = g.C.Types.facts c.args.set.now in
    let asks = asks_is c.in-PutStatic.is c.requires.asks in
    asks.here.0

pub put_static-requires-clause-here : goal.put_static-requires-clause-here
put_static-requires-clause-here g c =
    let facts = g.C.Types.facts c.args.set.now in
    let asks = asks_is c.in-PutStatic.is c.requires.asks in
    asks.here.1

pub returns-in-PutStatic-clause-step : goal.returns-in-PutStatic-clause-step
returns-in-PutStatic-clause-step g c =
    let facts = g.C.Types.facts c.args.set.now in
    let shown = g.O.Objects.shown c.args.objects.now in
    asked facts c.args.t c.in-PutStatic.is (c.put_static.ensures.step facts c.in-PutStatic.from
    c.requires.agrees.monitors)

pub returns-in-PutStatic-clause-output : goal.returns-in-PutStatic-clause-output
returns-in-PutStatic-clause-output g c = quiet_output _ _ _ _ c.in-PutStatic.is refl

pub returns-in-PutStatic-clause-behind : goal.returns-in-PutStatic-clause-behind
returns-in-PutStatic-clause-behind g c = quiet_behind _ _ _ _ c.in-PutStatic.is refl

pub returns-in-PutStatic-clause-cause : goal.returns-in-PutStatic-clause-cause
returns-in-PutStatic-clause-cause g c = quiet_faults _ _ _ _ c.in-PutStatic.is refl

pub get_field-requires-clause-field : goal.get_field-requires-clause-field
get_field-requires-clause-field g c =
    let facts = g.C.Types.facts c.args.set.now in
    let asks = asks_is c.in-GetField.is c.requires.asks in
    asks.fit.0

pub get_field-requires-clause-known : goal.get_field-requires-clause-known
get_field-requires-clause-known g c =
    let facts = g.C.Types.facts c.args.set.now in
    let asks = asks_is c.in-GetField.is c.requires.asks in
    asks.known

pub get_field-requires-clause-head : goal.get_field-requires-clause-head
get_field-requires-clause-head g c =
    let facts = g.C.Types.facts c.args.set.now in
    let asks = asks_is c.in-GetField.is c.requires.asks in
    asks.here.0

pub get_field-requires-clause-slot : goal.get_field-requires-clause-slot
get_field-requires-clause-slot g c =
    let facts = g.C.Types.facts c.args.set.now in
    let asks = asks_is c.in-GetField.is c.requires.asks in
    asks.here.1

pub get_field-requires-clause-referred : goal.get_field-requires-clause-referred
get_field-requires-clause-referred g c =
    let facts = g.C.Types.facts c.args.set.now in
    let asks = asks_is c.in-GetField.is c.requires.asks in
    asks.here.2

pub returns-in-GetField-clause-step : goal.returns-in-GetField-clause-step
returns-in-GetField-clause-step g c =
    let facts = g.C.Types.facts c.args.set.now in
    let shown = g.O.Objects.shown c.args.objects.now in
    asked facts c.args.t c.in-GetField.is (c.get_field.ensures.step c.args.t c.args.rest.now c.in-GetField.from
    c.requires.agrees.monitors)

pub returns-in-GetField-clause-output : goal.returns-in-GetField-clause-output
returns-in-GetField-clause-output g c = quiet_output _ _ _ _ c.in-GetField.is refl

pub returns-in-GetField-clause-behind : goal.returns-in-GetField-clause-behind
returns-in-GetField-clause-behind g c = quiet_behind _ _ _ _ c.in-GetField.is refl

pub returns-in-GetField-clause-cause : goal.returns-in-GetField-clause-cause
returns-in-GetField-clause-cause g c = quiet_faults _ _ _ _ c.in-GetField.is refl

pub put_field-requires-clause-field : goal.put_field-requires-clause-field
put_field-requires-clause-field g c =
    let facts = g.C.Types.facts c.args.set.now in
    let asks = asks_is c.in-PutField.is c.requires.asks in
    asks.fit.0

pub put_field-requires-clause-kind : goal.put_field-requires-clause-kind
put_field-requires-clause-kind g c =
    let facts = g.C.Types.facts c.args.set.now in
    let asks = asks_is c.in-PutField.is c.requires.asks in
    form_is (world_of [] (g.O.Objects.shown c.args.objects.now) c.args.rest.now) c.in-PutField.field.kind _
    asks.fit.2

pub put_field-requires-clause-known : goal.put_field-requires-clause-known
put_field-requires-clause-known g c =
    let facts = g.C.Types.facts c.args.set.now in
    let asks = asks_is c.in-PutField.is c.requires.asks in
    asks.known.0

pub put_field-requires-clause-known_value : goal.put_field-requires-clause-known_value
put_field-requires-clause-known_value g c =
    let facts = g.C.Types.facts c.args.set.now in
    let asks = asks_is c.in-PutField.is c.requires.asks in
    asks.known.1

pub put_field-requires-clause-head : goal.put_field-requires-clause-head
put_field-requires-clause-head g c =
    let facts = g.C.Types.facts c.args.set.now in
    let asks = asks_is c.in-PutField.is c.requires.asks in
    asks.here.0

pub put_field-requires-clause-slot : goal.put_field-requires-clause-slot
put_field-requires-clause-slot g c =
    let facts = g.C.Types.facts c.args.set.now in
    let asks = asks_is c.in-PutField.is c.requires.asks in
    asks.here.1

pub put_field-requires-clause-value : goal.put_field-requires-clause-value
put_field-requires-clause-value g c =
    let facts = g.C.Types.facts c.args.set.now in
    let asks = asks_is c.in-PutField.is c.requires.asks in
    asks.here.2

pub returns-in-PutField-clause-step : goal.returns-in-PutField-clause-step
returns-in-PutField-clause-step g c =
    let facts = g.C.Types.facts c.args.set.now in
    let shown = g.O.Objects.shown c.args.objects.now in
    asked facts c.args.t c.in-PutField.is (c.put_field.ensures.step c.args.t c.args.rest.now c.in-PutField.from
    c.requires.agrees.monitors)

pub returns-in-PutField-clause-output : goal.returns-in-PutField-clause-output
returns-in-PutField-clause-output g c = quiet_output _ _ _ _ c.in-PutField.is refl

pub returns-in-PutField-clause-behind : goal.returns-in-PutField-clause-behind
returns-in-PutField-clause-behind g c = quiet_behind _ _ _ _ c.in-PutField.is refl

pub returns-in-PutField-clause-cause : goal.returns-in-PutField-clause-cause
returns-in-PutField-clause-cause g c = quiet_faults _ _ _ _ c.in-PutField.is refl

pub get_element-requires-clause-known : goal.get_element-requires-clause-known
get_element-requires-clause-known g c =
    let facts = g.C.Types.facts c.args.set.now in
    let asks = asks_is c.in-GetElement.is c.requires.asks in
    asks.known

pub get_element-requires-clause-head : goal.get_element-requires-clause-head
get_element-requires-clause-head g c =
    let facts = g.C.Types.facts c.args.set.now in
    let asks = asks_is c.in-GetElement.is c.requires.asks in
    asks.here.0

pub get_element-requires-clause-slot : goal.get_element-requires-clause-slot
get_element-requires-clause-slot g c =
    let facts = g.C.Types.facts c.args.set.now in
    let asks = asks_is c.in-GetElement.is c.requires.asks in
    rw (to_z-of_z w32 c.in-GetElement.index (search rules)) asks.here.1

pub get_element-requires-clause-referred : goal.get_element-requires-clause-referred
get_element-requires-clause-referred g c =
    let facts = g.C.Types.facts c.args.set.now in
    let asks = asks_is c.in-GetElement.is c.requires.asks in
    rw (to_z-of_z w32 c.in-GetElement.index (search rules)) asks.here.2

pub returns-in-GetElement-clause-step : goal.returns-in-GetElement-clause-step
returns-in-GetElement-clause-step g c =
    let facts = g.C.Types.facts c.args.set.now in
    let shown = g.O.Objects.shown c.args.objects.now in
    asked facts c.args.t c.in-GetElement.is (rw (← to_z-of_z w32 c.in-GetElement.index (search rules))
    (c.get_element.ensures.step c.args.t c.args.rest.now c.in-GetElement.from c.requires.agrees.monitors))

pub returns-in-GetElement-clause-output : goal.returns-in-GetElement-clause-output
returns-in-GetElement-clause-output g c = quiet_output _ _ _ _ c.in-GetElement.is refl

pub returns-in-GetElement-clause-behind : goal.returns-in-GetElement-clause-behind
returns-in-GetElement-clause-behind g c = quiet_behind _ _ _ _ c.in-GetElement.is refl

pub returns-in-GetElement-clause-cause : goal.returns-in-GetElement-clause-cause
returns-in-GetElement-clause-cause g c = quiet_faults _ _ _ _ c.in-GetElement.is refl

pub put_element-requires-clause-kind : goal.put_element-requires-clause-kind
put_element-requires-clause-kind g c =
    let facts = g.C.Types.facts c.args.set.now in
    let asks = asks_is c.in-PutElement.is c.requires.asks in
    form_is (world_of [] (g.O.Objects.shown c.args.objects.now) c.args.rest.now) c.in-PutElement.kind _
    asks.fit.1

pub put_element-requires-clause-known : goal.put_element-requires-clause-known
put_element-requires-clause-known g c =
    let facts = g.C.Types.facts c.args.set.now in
    let asks = asks_is c.in-PutElement.is c.requires.asks in
    asks.known.0

pub put_element-requires-clause-known_value : goal.put_element-requires-clause-known_value
put_element-requires-clause-known_value g c =
    let facts = g.C.Types.facts c.args.set.now in
    let asks = asks_is c.in-PutElement.is c.requires.asks in
    asks.known.1

pub put_element-requires-clause-head : goal.put_element-requires-clause-head
put_element-requires-clause-head g c =
    let facts = g.C.Types.facts c.args.set.now in
    let asks = asks_is c.in-PutElement.is c.requires.asks in
    asks.here.0

pub put_element-requires-clause-slot : goal.put_element-requires-clause-slot
put_element-requires-clause-slot g c =
    let facts = g.C.Types.facts c.args.set.now in
    let asks = asks_is c.in-PutElement.is c.requires.asks in
    rw (to_z-of_z w32 c.in-PutElement.index (search rules)) asks.here.1

pub put_element-requires-clause-value : goal.put_element-requires-clause-value
put_element-requires-clause-value g c =
    let facts = g.C.Types.facts c.args.set.now in
    let asks = asks_is c.in-PutElement.is c.requires.asks in
    asks.here.2

pub returns-in-PutElement-clause-step : goal.returns-in-PutElement-clause-step
returns-in-PutElement-clause-step g c =
    let facts = g.C.Types.facts c.args.set.now in
    let shown = g.O.Objects.shown c.args.objects.now in
    asked facts c.args.t c.in-PutElement.is (rw (← to_z-of_z w32 c.in-PutElement.index (search rules))
    (c.put_element.ensures.step c.args.t c.args.rest.now c.in-PutElement.from c.requires.agrees.monitors))

pub returns-in-PutElement-clause-output : goal.returns-in-PutElement-clause-output
returns-in-PutElement-clause-output g c = quiet_output _ _ _ _ c.in-PutElement.is refl

pub returns-in-PutElement-clause-behind : goal.returns-in-PutElement-clause-behind
returns-in-PutElement-clause-behind g c = quiet_behind _ _ _ _ c.in-PutElement.is refl

pub returns-in-PutElement-clause-cause : goal.returns-in-PutElement-clause-cause
returns-in-PutElement-clause-cause g c = quiet_faults _ _ _ _ c.in-PutElement.is refl

pub length-requires-clause-known : goal.length-requires-clause-known
length-requires-clause-known g c =
    let facts = g.C.Types.facts c.args.set.now in
    let asks = asks_is c.in-Length.is c.requires.asks in
    asks.known

pub length-requires-clause-head : goal.length-requires-clause-head
length-requires-clause-head g c =
    let facts = g.C.Types.facts c.args.set.now in
    let asks = asks_is c.in-Length.is c.requires.asks in
    asks.here

pub returns-in-Length-clause-step : goal.returns-in-Length-clause-step
returns-in-Length-clause-step g c =
    let facts = g.C.Types.facts c.args.set.now in
    let shown = g.O.Objects.shown c.args.objects.now in
    asked facts c.args.t c.in-Length.is (c.length.ensures.step c.args.t c.args.rest.now c.in-Length.from
    c.requires.agrees.monitors)

pub returns-in-Length-clause-output : goal.returns-in-Length-clause-output
returns-in-Length-clause-output g c = quiet_output _ _ _ _ c.in-Length.is refl

pub returns-in-Length-clause-behind : goal.returns-in-Length-clause-behind
returns-in-Length-clause-behind g c = quiet_behind _ _ _ _ c.in-Length.is refl

pub returns-in-Length-clause-cause : goal.returns-in-Length-clause-cause
returns-in-Length-clause-cause g c = quiet_faults _ _ _ _ c.in-Length.is refl

pub class_of-requires-clause-known : goal.class_of-requires-clause-known
class_of-requires-clause-known g c =
    let facts = g.C.Types.facts c.args.set.now in
    let asks = asks_is c.in-ClassOf.is c.requires.asks in
    asks.known

pub class_of-requires-clause-head : goal.class_of-requires-clause-head
class_of-requires-clause-head g c =
    let facts = g.C.Types.facts c.args.set.now in
    let asks = asks_is c.in-ClassOf.is c.requires.asks in
    asks.here

pub returns-in-ClassOf-clause-step : goal.returns-in-ClassOf-clause-step
returns-in-ClassOf-clause-step g c =
    let facts = g.C.Types.facts c.args.set.now in
    let shown = g.O.Objects.shown c.args.objects.now in
    asked facts c.args.t c.in-ClassOf.is (c.class_of.ensures.step c.args.t c.args.rest.now c.in-ClassOf.from
    c.requires.agrees.monitors)

pub returns-in-ClassOf-clause-output : goal.returns-in-ClassOf-clause-output
returns-in-ClassOf-clause-output g c = quiet_output _ _ _ _ c.in-ClassOf.is refl

pub returns-in-ClassOf-clause-behind : goal.returns-in-ClassOf-clause-behind
returns-in-ClassOf-clause-behind g c = quiet_behind _ _ _ _ c.in-ClassOf.is refl

pub returns-in-ClassOf-clause-cause : goal.returns-in-ClassOf-clause-cause
returns-in-ClassOf-clause-cause g c = quiet_faults _ _ _ _ c.in-ClassOf.is refl

pub cast-requires-clause-known : goal.cast-requires-clause-known
cast-requires-clause-known g c =
    let facts = g.C.Types.facts c.args.set.now in
    let asks = asks_is c.in-Cast.is c.requires.asks in
    asks.known

pub cast-requires-clause-head : goal.cast-requires-clause-head
cast-requires-clause-head g c =
    let facts = g.C.Types.facts c.args.set.now in
    let asks = asks_is c.in-Cast.is c.requires.asks in
    asks.here

pub returns-in-Cast-clause-step : goal.returns-in-Cast-clause-step
returns-in-Cast-clause-step g c =
    let facts = g.C.Types.facts c.args.set.now in
    let shown = g.O.Objects.shown c.args.objects.now in
    asked facts c.args.t c.in-Cast.is (c.cast.ensures.step c.args.t c.args.rest.now c.in-Cast.from
    c.requires.agrees.monitors)

pub returns-in-Cast-clause-output : goal.returns-in-Cast-clause-output
returns-in-Cast-clause-output g c = quiet_output _ _ _ _ c.in-Cast.is refl

pub returns-in-Cast-clause-behind : goal.returns-in-Cast-clause-behind
returns-in-Cast-clause-behind g c = quiet_behind _ _ _ _ c.in-Cast.is refl

pub returns-in-Cast-clause-cause : goal.returns-in-Cast-clause-cause
returns-in-Cast-clause-cause g c = quiet_faults _ _ _ _ c.in-Cast.is refl

pub is_a-requires-clause-known : goal.is_a-requires-clause-known
is_a-requires-clause-known g c =
    let facts = g.C.Types.facts c.args.set.now in
    let asks = asks_is c.in-IsA.is c.requires.asks in
    asks.known

pub is_a-requires-clause-head : goal.is_a-requires-clause-head
is_a-requires-clause-head g c =
    let facts = g.C.Types.facts c.args.set.now in
    let asks = asks_is c.in-IsA.is c.requires.asks in
    asks.here

pub returns-in-IsA-clause-step : goal.returns-in-IsA-clause-step
returns-in-IsA-clause-step g c =
    let facts = g.C.Types.facts c.args.set.now in
    let shown = g.O.Objects.shown c.args.objects.now in
    asked facts c.args.t c.in-IsA.is (c.is_a.ensures.step c.args.t c.args.rest.now c.in-IsA.from
    c.requires.agrees.monitors)

pub returns-in-IsA-clause-output : goal.returns-in-IsA-clause-output
returns-in-IsA-clause-output g c = quiet_output _ _ _ _ c.in-IsA.is refl

pub returns-in-IsA-clause-behind : goal.returns-in-IsA-clause-behind
returns-in-IsA-clause-behind g c = quiet_behind _ _ _ _ c.in-IsA.is refl

pub returns-in-IsA-clause-cause : goal.returns-in-IsA-clause-cause
returns-in-IsA-clause-cause g c = quiet_faults _ _ _ _ c.in-IsA.is refl

pub same-requires-clause-known_left : goal.same-requires-clause-known_left
same-requires-clause-known_left g c =
    let facts = g.C.Types.facts c.args.set.now in
    let asks = asks_is c.in-Same.is c.requires.asks in
    asks.known.0

pub same-requires-clause-known_right : goal.same-requires-clause-known_right
same-requires-clause-known_right g c =
    let facts = g.C.Types.facts c.args.set.now in
    let asks = asks_is c.in-Same.is c.requires.asks in
    asks.known.1

pub same-requires-clause-left : goal.same-requires-clause-left
same-requires-clause-left g c =
    let facts = g.C.Types.facts c.args.set.now in
    let asks = asks_is c.in-Same.is c.requires.asks in
    asks.here.0

pub same-requires-clause-right : goal.same-requires-clause-right
same-requires-clause-right g c =
    let facts = g.C.Types.facts c.args.set.now in
    let asks = asks_is c.in-Same.is c.requires.asks in
    asks.here.1

pub returns-in-Same-clause-step : goal.returns-in-Same-clause-step
returns-in-Same-clause-step g c =
    let facts = g.C.Types.facts c.args.set.now in
    let shown = g.O.Objects.shown c.args.objects.now in
    asked facts c.args.t c.in-Same.is (c.same.ensures.step facts c.args.t c.args.rest.now c.in-Same.from
    c.requires.agrees.monitors)

pub returns-in-Same-clause-output : goal.returns-in-Same-clause-output
returns-in-Same-clause-output g c = quiet_output _ _ _ _ c.in-Same.is refl

pub returns-in-Same-clause-behind : goal.returns-in-Same-clause-behind
returns-in-Same-clause-behind g c = quiet_behind _ _ _ _ c.in-Same.is refl

pub returns-in-Same-clause-cause : goal.returns-in-Same-clause-cause
returns-in-Same-clause-cause g c = quiet_faults _ _ _ _ c.in-Same.is refl

pub start-requires-clause-known : goal.start-requires-clause-known
start-requires-clause-known g c =
    let facts = g.C.Types.facts c.args.set.now in
    let asks = asks_is c.in-Start.is c.requires.asks in
    asks.known

pub start-requires-clause-head : goal.start-requires-clause-head
start-requires-clause-head g c =
    let facts = g.C.Types.facts c.args.set.now in
    let asks = asks_is c.in-Start.is c.requires.asks in
    asks.here

pub returns-in-Start-clause-step : goal.returns-in-Start-clause-step
returns-in-Start-clause-step g c =
    let facts = g.C.Types.facts c.args.set.now in
    let shown = g.O.Objects.shown c.args.objects.now in
    asked facts c.args.t c.in-Start.is (c.start.ensures.step c.args.t c.in-Start.from)

pub returns-in-Start-clause-output : goal.returns-in-Start-clause-output
returns-in-Start-clause-output g c = quiet_output _ _ _ _ c.in-Start.is refl

pub returns-in-Start-clause-behind : goal.returns-in-Start-clause-behind
returns-in-Start-clause-behind g c = quiet_behind _ _ _ _ c.in-Start.is refl

pub returns-in-Start-clause-cause : goal.returns-in-Start-clause-cause
returns-in-Start-clause-cause g c = quiet_faults _ _ _ _ c.in-Start.is refl

pub join-requires-clause-known : goal.join-requires-clause-known
join-requires-clause-known g c =
    let facts = g.C.Types.facts c.args.set.now in
    let asks = asks_is c.in-Join.is c.requires.asks in
    asks.known

pub join-requires-clause-head : goal.join-requires-clause-head
join-requires-clause-head g c =
    let facts = g.C.Types.facts c.args.set.now in
    let asks = asks_is c.in-Join.is c.requires.asks in
    asks.here

pub returns-in-Join-clause-step : goal.returns-in-Join-clause-step
returns-in-Join-clause-step g c =
    let facts = g.C.Types.facts c.args.set.now in
    let shown = g.O.Objects.shown c.args.objects.now in
    asked facts c.args.t c.in-Join.is (c.join.ensures.step c.args.t c.in-Join.from)

pub returns-in-Join-clause-output : goal.returns-in-Join-clause-output
returns-in-Join-clause-output g c = quiet_output _ _ _ _ c.in-Join.is refl

pub returns-in-Join-clause-behind : goal.returns-in-Join-clause-behind
returns-in-Join-clause-behind g c = quiet_behind _ _ _ _ c.in-Join.is refl

pub returns-in-Join-clause-cause : goal.returns-in-Join-clause-cause
returns-in-Join-clause-cause g c = quiet_faults _ _ _ _ c.in-Join.is refl

pub init-requires : goal.init-requires
init-requires g c =
    let facts = g.C.Types.facts c.args.set.now in
    let asks = asks_is c.in-Init.is c.requires.asks in
    record { there = class_there c.requires.agrees c.in-Init.class asks.fit }

pub returns-in-Init-clause-step : goal.returns-in-Init-clause-step
returns-in-Init-clause-step g c =
    let facts = g.C.Types.facts c.args.set.now in
    let shown = g.O.Objects.shown c.args.objects.now in
    asked facts c.args.t c.in-Init.is (c.init.ensures.step facts shown c.in-Init.from c.requires.agrees.monitors)

pub returns-in-Init-clause-output : goal.returns-in-Init-clause-output
returns-in-Init-clause-output g c = quiet_output _ _ _ _ c.in-Init.is refl

pub returns-in-Init-clause-behind : goal.returns-in-Init-clause-behind
returns-in-Init-clause-behind g c = quiet_behind _ _ _ _ c.in-Init.is refl

pub returns-in-Init-clause-cause : goal.returns-in-Init-clause-cause
returns-in-Init-clause-cause g c = quiet_faults _ _ _ _ c.in-Init.is refl

pub init_done-requires : goal.init_done-requires
init_done-requires g c =
    let facts = g.C.Types.facts c.args.set.now in
    let asks = asks_is c.in-InitDone.is c.requires.asks in
    record { there = slice_get_within _ _ _ asks.fit }

pub returns-in-InitDone-clause-step : goal.returns-in-InitDone-clause-step
returns-in-InitDone-clause-step g c =
    let facts = g.C.Types.facts c.args.set.now in
    let shown = g.O.Objects.shown c.args.objects.now in
    asked facts c.args.t c.in-InitDone.is (c.init_done.ensures.step facts c.args.t shown c.in-InitDone.from
    c.requires.agrees.monitors)

pub returns-in-InitDone-clause-output : goal.returns-in-InitDone-clause-output
returns-in-InitDone-clause-output g c = quiet_output _ _ _ _ c.in-InitDone.is refl

pub returns-in-InitDone-clause-behind : goal.returns-in-InitDone-clause-behind
returns-in-InitDone-clause-behind g c = quiet_behind _ _ _ _ c.in-InitDone.is refl

pub returns-in-InitDone-clause-cause : goal.returns-in-InitDone-clause-cause
returns-in-InitDone-clause-cause g c = quiet_faults _ _ _ _ c.in-InitDone.is refl

pub returns-in-Print-clause-step : goal.returns-in-Print-clause-step
returns-in-Print-clause-step g c =
    let facts = g.C.Types.facts c.args.set.now in
    let shown = g.O.Objects.shown c.args.objects.now in
    asked facts c.args.t c.in-Print.is (c.print.ensures.step facts c.args.t c.args.rest.now shown
    c.in-Print.from c.requires.agrees.monitors)

pub returns-in-Print-clause-output : goal.returns-in-Print-clause-output
returns-in-Print-clause-output g c = output_is _ _ _ _ _ c.in-Print.is c.print.ensures.told

pub returns-in-Print-clause-behind : goal.returns-in-Print-clause-behind
returns-in-Print-clause-behind g c = behind_is _ _ _ _ _ c.in-Print.is c.print.ensures.behind

pub returns-in-Print-clause-cause : goal.returns-in-Print-clause-cause
returns-in-Print-clause-cause g c = faults_are _ _ _ _ _ c.in-Print.is c.print.ensures.cause

pub throw_class-requires-clause-there : goal.throw_class-requires-clause-there
throw_class-requires-clause-there g c =
    let facts = g.C.Types.facts c.args.set.now in
    let asks = asks_is c.in-Raise.is c.requires.asks in
    asks.fit.0

pub returns-in-Raise-clause-step : goal.returns-in-Raise-clause-step
returns-in-Raise-clause-step g c =
    let facts = g.C.Types.facts c.args.set.now in
    let shown = g.O.Objects.shown c.args.objects.now in
    asked facts c.args.t c.in-Raise.is (same_goes (λ roots taken. step_raise facts (world_of roots shown
    c.args.rest.now) c.args.t taken c.in-Raise.from c.in-Raise.class) (c.throw_class.ensures.step c.args.t
    c.args.rest.now c.requires.agrees.monitors))

pub returns-in-Raise-clause-output : goal.returns-in-Raise-clause-output
returns-in-Raise-clause-output g c = quiet_output _ _ _ _ c.in-Raise.is refl

pub returns-in-Raise-clause-behind : goal.returns-in-Raise-clause-behind
returns-in-Raise-clause-behind g c = quiet_behind _ _ _ _ c.in-Raise.is refl

pub returns-in-Raise-clause-cause : goal.returns-in-Raise-clause-cause
returns-in-Raise-clause-cause g c = quiet_faults _ _ _ _ c.in-Raise.is refl

pub begin-requires-clause-there : goal.begin-requires-clause-there
begin-requires-clause-there g c =
    let facts = g.C.Types.facts c.args.set.now in
    let asks = asks_is c.in-Begin.is c.requires.asks in
    asks.thread

pub returns-in-Begin-clause-step : goal.returns-in-Begin-clause-step
returns-in-Begin-clause-step g c =
    let facts = g.C.Types.facts c.args.set.now in
    let shown = g.O.Objects.shown c.args.objects.now in
    asked facts c.args.t c.in-Begin.is (c.begin.ensures.step facts shown c.in-Begin.from
    c.requires.agrees.monitors)

pub returns-in-Begin-clause-output : goal.returns-in-Begin-clause-output
returns-in-Begin-clause-output g c = quiet_output _ _ _ _ c.in-Begin.is refl

pub returns-in-Begin-clause-behind : goal.returns-in-Begin-clause-behind
returns-in-Begin-clause-behind g c = quiet_behind _ _ _ _ c.in-Begin.is refl

pub returns-in-Begin-clause-cause : goal.returns-in-Begin-clause-cause
returns-in-Begin-clause-cause g c = quiet_faults _ _ _ _ c.in-Begin.is refl

pub end-requires-clause-there : goal.end-requires-clause-there
end-requires-clause-there g c =
    let facts = g.C.Types.facts c.args.set.now in
    let asks = asks_is c.in-End.is c.requires.asks in
    asks.thread

pub returns-in-End-clause-step : goal.returns-in-End-clause-step
returns-in-End-clause-step g c =
    let facts = g.C.Types.facts c.args.set.now in
    let shown = g.O.Objects.shown c.args.objects.now in
    asked facts c.args.t c.in-End.is (c.end.ensures.step c.in-End.from)

pub returns-in-End-clause-output : goal.returns-in-End-clause-output
returns-in-End-clause-output g c = quiet_output _ _ _ _ c.in-End.is refl

pub returns-in-End-clause-behind : goal.returns-in-End-clause-behind
returns-in-End-clause-behind g c = quiet_behind _ _ _ _ c.in-End.is refl

pub returns-in-End-clause-cause : goal.returns-in-End-clause-cause
returns-in-End-clause-cause g c = quiet_faults _ _ _ _ c.in-End.is refl

pub leave-requires : goal.leave-requires
leave-requires g c =
    let facts = g.C.Types.facts c.args.set.now in
    let asks = asks_is c.in-Leave.is c.requires.asks in
    record { there = asks.thread }

pub returns-in-Leave-clause-step : goal.returns-in-Leave-clause-step
returns-in-Leave-clause-step g c =
    let facts = g.C.Types.facts c.args.set.now in
    let shown = g.O.Objects.shown c.args.objects.now in
    asked facts c.args.t c.in-Leave.is (c.leave.ensures.step facts shown (record {
      class = 0;
      method = 0;
      pc = 0;
    }) c.requires.agrees.monitors)

pub returns-in-Leave-clause-output : goal.returns-in-Leave-clause-output
returns-in-Leave-clause-output g c = quiet_output _ _ _ _ c.in-Leave.is refl

pub returns-in-Leave-clause-behind : goal.returns-in-Leave-clause-behind
returns-in-Leave-clause-behind g c = quiet_behind _ _ _ _ c.in-Leave.is refl

pub returns-in-Leave-clause-cause : goal.returns-in-Leave-clause-cause
returns-in-Leave-clause-cause g c = quiet_faults _ _ _ _ c.in-Leave.is refl

pub returns-in-Object-clause-step : goal.returns-in-Object-clause-step
returns-in-Object-clause-step g c =
    let facts = g.C.Types.facts c.args.set.now in
    asked facts c.args.t (c.in-Enter.is ∙ ap (ask.Enter c.in-Enter.from) c.in-Object.is)
    (c.enter_object.ensures.step c.in-Enter.from)

pub returns-in-Class-clause-step : goal.returns-in-Class-clause-step
returns-in-Class-clause-step g c =
    let facts = g.C.Types.facts c.args.set.now in
    asked facts c.args.t (c.in-Enter.is ∙ ap (ask.Enter c.in-Enter.from) c.in-Class.is)
    (c.enter_class.ensures.step facts c.in-Enter.from)

pub returns-in-Object-key-clause-step : goal.returns-in-Object-key-clause-step
returns-in-Object-key-clause-step g c =
    let facts = g.C.Types.facts c.args.set.now in
    asked facts c.args.t (c.in-Exit.is ∙ ap (ask.Exit c.in-Exit.from) c.in-Object-key.is)
    (c.exit_object.ensures.step c.in-Exit.from)

pub returns-in-Class-key-clause-step : goal.returns-in-Class-key-clause-step
returns-in-Class-key-clause-step g c =
    let facts = g.C.Types.facts c.args.set.now in
    asked facts c.args.t (c.in-Exit.is ∙ ap (ask.Exit c.in-Exit.from) c.in-Class-key.is)
    (c.exit_class.ensures.step c.in-Exit.from)

pub returns-in-Pause-clause-share : goal.returns-in-Pause-clause-share
returns-in-Pause-clause-share g c = share_is _ _ _ _ c.in-Pause.is tt

pub returns-in-Pause-clause-heap : goal.returns-in-Pause-clause-heap
returns-in-Pause-clause-heap g c = quiet_becomes g.O.Objects.shown g.O.Objects.stores g.O.Objects.makes
    c.args.objects.now c.pause.result c.pause.ensures.quiet

pub returns-in-Broken-clause-share : goal.returns-in-Broken-clause-share
returns-in-Broken-clause-share g c = share_is _ _ _ _ c.in-Broken.is tt

pub returns-in-New-clause-share : goal.returns-in-New-clause-share
returns-in-New-clause-share g c = share_is _ _ _ _ c.in-New.is tt

pub returns-in-NewArray-clause-share : goal.returns-in-NewArray-clause-share
returns-in-NewArray-clause-share g c = share_is _ _ _ _ c.in-NewArray.is tt

pub returns-in-NewText-clause-share : goal.returns-in-NewText-clause-share
returns-in-NewText-clause-share g c = share_is _ _ _ _ c.in-NewText.is tt

pub returns-in-GetStatic-clause-share : goal.returns-in-GetStatic-clause-share
returns-in-GetStatic-clause-share g c = share_is _ _ _ _ c.in-GetStatic.is tt

pub returns-in-GetStatic-clause-heap : goal.returns-in-GetStatic-clause-heap
returns-in-GetStatic-clause-heap g c = quiet_becomes g.O.Objects.shown g.O.Objects.stores g.O.Objects.makes
    c.args.objects.now c.get_static.result c.get_static.ensures.quiet

pub returns-in-PutStatic-clause-share : goal.returns-in-PutStatic-clause-share
returns-in-PutStatic-clause-share g c = share_is _ _ _ _ c.in-PutStatic.is tt

pub returns-in-GetField-clause-share : goal.returns-in-GetField-clause-share
returns-in-GetField-clause-share g c = share_is _ _ _ _ c.in-GetField.is tt

pub returns-in-PutField-clause-share : goal.returns-in-PutField-clause-share
returns-in-PutField-clause-share g c = share_is _ _ _ _ c.in-PutField.is tt

pub returns-in-GetElement-clause-share : goal.returns-in-GetElement-clause-share
returns-in-GetElement-clause-share g c = share_is _ _ _ _ c.in-GetElement.is tt

pub returns-in-PutElement-clause-share : goal.returns-in-PutElement-clause-share
returns-in-PutElement-clause-share g c = share_is _ _ _ _ c.in-PutElement.is tt

pub returns-in-Length-clause-share : goal.returns-in-Length-clause-share
returns-in-Length-clause-share g c = share_is _ _ _ _ c.in-Length.is tt

pub returns-in-ClassOf-clause-share : goal.returns-in-ClassOf-clause-share
returns-in-ClassOf-clause-share g c = share_is _ _ _ _ c.in-ClassOf.is tt

pub returns-in-Cast-clause-share : goal.returns-in-Cast-clause-share
returns-in-Cast-clause-share g c = share_is _ _ _ _ c.in-Cast.is tt

pub returns-in-IsA-clause-share : goal.returns-in-IsA-clause-share
returns-in-IsA-clause-share g c = share_is _ _ _ _ c.in-IsA.is tt

pub returns-in-IsA-clause-heap : goal.returns-in-IsA-clause-heap
returns-in-IsA-clause-heap g c = quiet_becomes g.O.Objects.shown g.O.Objects.stores g.O.Objects.makes
    c.args.objects.now c.is_a.result c.is_a.ensures.quiet

pub returns-in-Same-clause-share : goal.returns-in-Same-clause-share
returns-in-Same-clause-share g c = share_is _ _ _ _ c.in-Same.is tt

pub returns-in-Same-clause-heap : goal.returns-in-Same-clause-heap
returns-in-Same-clause-heap g c = quiet_becomes g.O.Objects.shown g.O.Objects.stores g.O.Objects.makes
    c.args.objects.now c.same.result c.same.ensures.quiet

pub returns-in-Start-clause-share : goal.returns-in-Start-clause-share
returns-in-Start-clause-share g c = share_is _ _ _ _ c.in-Start.is tt

pub returns-in-Join-clause-share : goal.returns-in-Join-clause-share
returns-in-Join-clause-share g c = share_is _ _ _ _ c.in-Join.is tt

pub returns-in-Init-clause-share : goal.returns-in-Init-clause-share
returns-in-Init-clause-share g c = share_is _ _ _ _ c.in-Init.is tt

pub returns-in-Init-clause-heap : goal.returns-in-Init-clause-heap
returns-in-Init-clause-heap g c = quiet_becomes g.O.Objects.shown g.O.Objects.stores g.O.Objects.makes
    c.args.objects.now c.init.result c.init.ensures.quiet

pub returns-in-InitDone-clause-share : goal.returns-in-InitDone-clause-share
returns-in-InitDone-clause-share g c = share_is _ _ _ _ c.in-InitDone.is tt

pub returns-in-InitDone-clause-heap : goal.returns-in-InitDone-clause-heap
returns-in-InitDone-clause-heap g c = quiet_becomes g.O.Objects.shown g.O.Objects.stores g.O.Objects.makes
    c.args.objects.now c.init_done.result c.init_done.ensures.quiet

pub returns-in-Print-clause-silent : goal.returns-in-Print-clause-silent
returns-in-Print-clause-silent g c silent = absurd (subst IsSilent c.in-Print.is silent)

pub returns-in-Print-clause-share : goal.returns-in-Print-clause-share
returns-in-Print-clause-share g c = share_is _ _ _ _ c.in-Print.is c.print.ensures.share

pub returns-in-Print-clause-heap : goal.returns-in-Print-clause-heap
returns-in-Print-clause-heap g c = quiet_becomes g.O.Objects.shown g.O.Objects.stores g.O.Objects.makes
    c.args.objects.now c.print.result c.print.ensures.quiet

pub returns-in-Raise-clause-share : goal.returns-in-Raise-clause-share
returns-in-Raise-clause-share g c = share_is _ _ _ _ c.in-Raise.is tt

pub returns-in-Begin-clause-share : goal.returns-in-Begin-clause-share
returns-in-Begin-clause-share g c = share_is _ _ _ _ c.in-Begin.is tt

pub returns-in-Begin-clause-heap : goal.returns-in-Begin-clause-heap
returns-in-Begin-clause-heap g c = quiet_becomes g.O.Objects.shown g.O.Objects.stores g.O.Objects.makes
    c.args.objects.now c.begin.result c.begin.ensures.quiet

pub returns-in-End-clause-share : goal.returns-in-End-clause-share
returns-in-End-clause-share g c = share_is _ _ _ _ c.in-End.is tt

pub returns-in-Leave-clause-share : goal.returns-in-Leave-clause-share
returns-in-Leave-clause-share g c = share_is _ _ _ _ c.in-Leave.is tt

pub returns-in-Leave-clause-heap : goal.returns-in-Leave-clause-heap
returns-in-Leave-clause-heap g c = quiet_becomes g.O.Objects.shown g.O.Objects.stores g.O.Objects.makes
    c.args.objects.now c.leave.result c.leave.ensures.quiet

pub put_static-requires-clause-may : goal.put_static-requires-clause-may
put_static-requires-clause-may g c place kind kept narrowed stores =
    let facts = g.C.Types.facts c.args.set.now in
    let shown = g.O.Objects.shown c.args.objects.now in
    may_is facts shown c.args.rest.now c.args.t c.in-PutStatic.is c.requires.may refl place kind kept narrowed
    (stores facts 0 [] c.in-PutStatic.from)

pub put_field-requires-clause-may : goal.put_field-requires-clause-may
put_field-requires-clause-may g c place kind kept narrowed stores =
    let facts = g.C.Types.facts c.args.set.now in
    let shown = g.O.Objects.shown c.args.objects.now in
    may_is facts shown c.args.rest.now c.args.t c.in-PutField.is c.requires.may refl place kind kept narrowed
    (stores c.args.t 0 [] c.args.rest.now c.in-PutField.from)

pub put_element-requires-clause-may : goal.put_element-requires-clause-may
put_element-requires-clause-may g c place kind kept narrowed stores =
    let facts = g.C.Types.facts c.args.set.now in
    let shown = g.O.Objects.shown c.args.objects.now in
    may_is facts shown c.args.rest.now c.args.t c.in-PutElement.is c.requires.may refl place kind kept
    narrowed
    (rw (to_z-of_z w32 c.in-PutElement.index (search rules)) at (stores c.args.t 0 [] c.args.rest.now
    c.in-PutElement.from))

pub returns-in-Pause-clause-given : goal.returns-in-Pause-clause-given
returns-in-Pause-clause-given g c = given_none _ c.in-Pause.is refl

pub returns-in-Broken-clause-given : goal.returns-in-Broken-clause-given
returns-in-Broken-clause-given g c = given_none _ c.in-Broken.is refl

pub returns-in-New-clause-given : goal.returns-in-New-clause-given
returns-in-New-clause-given g c = given_none _ c.in-New.is refl

pub returns-in-NewArray-clause-given : goal.returns-in-NewArray-clause-given
returns-in-NewArray-clause-given g c = given_none _ c.in-NewArray.is refl

pub returns-in-NewText-clause-given : goal.returns-in-NewText-clause-given
returns-in-NewText-clause-given g c = given_none _ c.in-NewText.is refl

pub returns-in-GetStatic-clause-given : goal.returns-in-GetStatic-clause-given
returns-in-GetStatic-clause-given g c = given_none _ c.in-GetStatic.is refl

pub returns-in-PutStatic-clause-given : goal.returns-in-PutStatic-clause-given
returns-in-PutStatic-clause-given g c = given_some _ c.in-PutStatic.value c.in-PutStatic.is refl c.put_static.ensures.given

pub returns-in-GetField-clause-given : goal.returns-in-GetField-clause-given
returns-in-GetField-clause-given g c = given_none _ c.in-GetField.is refl

pub returns-in-PutField-clause-given : goal.returns-in-PutField-clause-given
returns-in-PutField-clause-given g c = given_some _ c.in-PutField.value c.in-PutField.is refl c.put_field.ensures.given

pub returns-in-GetElement-clause-given : goal.returns-in-GetElement-clause-given
returns-in-GetElement-clause-given g c = given_none _ c.in-GetElement.is refl

pub returns-in-PutElement-clause-given : goal.returns-in-PutElement-clause-given
returns-in-PutElement-clause-given g c = given_some _ c.in-PutElement.value c.in-PutElement.is refl c.put_element.ensures.given

pub returns-in-Length-clause-given : goal.returns-in-Length-clause-given
returns-in-Length-clause-given g c = given_none _ c.in-Length.is refl

pub returns-in-ClassOf-clause-given : goal.returns-in-ClassOf-clause-given
returns-in-ClassOf-clause-given g c = given_none _ c.in-ClassOf.is refl

pub returns-in-Cast-clause-given : goal.returns-in-Cast-clause-given
returns-in-Cast-clause-given g c = given_none _ c.in-Cast.is refl

pub returns-in-IsA-clause-given : goal.returns-in-IsA-clause-given
returns-in-IsA-clause-given g c = given_none _ c.in-IsA.is refl

pub returns-in-Same-clause-given : goal.returns-in-Same-clause-given
returns-in-Same-clause-given g c = given_none _ c.in-Same.is refl

pub returns-in-Start-clause-given : goal.returns-in-Start-clause-given
returns-in-Start-clause-given g c = given_none _ c.in-Start.is refl

pub returns-in-Join-clause-given : goal.returns-in-Join-clause-given
returns-in-Join-clause-given g c = given_none _ c.in-Join.is refl

pub returns-in-Init-clause-given : goal.returns-in-Init-clause-given
returns-in-Init-clause-given g c = given_none _ c.in-Init.is refl

pub returns-in-InitDone-clause-given : goal.returns-in-InitDone-clause-given
returns-in-InitDone-clause-given g c = given_none _ c.in-InitDone.is refl

pub returns-in-Print-clause-given : goal.returns-in-Print-clause-given
returns-in-Print-clause-given g c = given_none _ c.in-Print.is refl

pub returns-in-Raise-clause-given : goal.returns-in-Raise-clause-given
returns-in-Raise-clause-given g c = given_none _ c.in-Raise.is refl

pub returns-in-Begin-clause-given : goal.returns-in-Begin-clause-given
returns-in-Begin-clause-given g c = given_none _ c.in-Begin.is refl

pub returns-in-End-clause-given : goal.returns-in-End-clause-given
returns-in-End-clause-given g c = given_none _ c.in-End.is refl

pub returns-in-Leave-clause-given : goal.returns-in-Leave-clause-given
returns-in-Leave-clause-given g c = given_none _ c.in-Leave.is refl
