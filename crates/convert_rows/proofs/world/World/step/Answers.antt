use Rattle.std.proofs.Common.{List}
use Rattle.twin_forms.specs.Table.{Entry}
use Rattle.twin_forms.specs.Sights.{Twin}
use Rattle.convert_words.specs.declared.step.ConvertStep.{ConvertStep}
use Rattle.convert_words.specs.Scenes.{Scene, AgreesAt}
use Rattle.converter.specs.Stepping.{Event, FailedEvent}
use Rattle.converter.proofs.Events.{ok_on, err_on, either}
use Rattle.convert_rows.proofs.Keeping.{World, scene_of, event_world, failed_world}
use Rattle.convert_rows.proofs.world.World.step.Goals as goal

pub returns : goal.returns
returns c =
    let w = c.requires.whole in
    let now = c.args.self.now in
    let h : Twin = record { space = now.heap.space; memory = now.heap.memory; marks = now.heap.marks } in
    let n = c.convert_next.new in
    let h' : Twin = record { space = n.heap.space; memory = n.heap.memory; marks = n.heap.marks } in
    let s : Scene = scene_of h now.queue now.space now.monitors in
    let s' : Scene = scene_of h' n.queue n.space n.monitors in
    let told = c.convert_next.ensures in
    record {
      whole = either c.convert_next.result (World h' n.queue n.space n.monitors now.objects.items)
          (ok_on c.convert_next.result
          (λ (y : ConvertStep). (es : List Entry) → AgreesAt s es → Event c.args.t y s s' es now.monitors n.monitors)
          (λ _. World h' n.queue n.space n.monitors now.objects.items) told.converts
          (λ y p. event_world c.args.t y h h' now.queue n.queue now.space n.space now.monitors n.monitors now.objects.items w (p w.table w.agrees) told.lines told.within told.sound told.known))
          (err_on c.convert_next.result ((es : List Entry) → AgreesAt s es → FailedEvent c.args.t s s' es now.monitors n.monitors) (World h' n.queue n.space n.monitors now.objects.items) told.failed
          (λ p. failed_world c.args.t h h' now.queue n.queue now.space n.space now.monitors n.monitors now.objects.items w (p w.table w.agrees) told.lines told.within told.sound told.known));
    }
