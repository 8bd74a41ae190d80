use Rattle.std.proofs.Common.{◌≡◌, ap, refl, subst, ◌∙◌}
use Rattle.ap_base.specs.Causes.{next_count}
use Rattle.graph_model.specs.declared.types.Graph.{Graph}
use Rattle.line_memory.specs.Memory.{Memory}
use Rattle.image_recovery.specs.Recovered.{entries_in}
use Rattle.durable_launch.specs.Launching.{launch_over, opening_over}
use Rattle.class_runs.specs.Began.{RanBy}
use Rattle.class_runs.proofs.Outside.{tells_nothing}
use Rattle.class_runs.proofs.SetRan.{has_run_over, unstarted_ran}
use Rattle.class_runs.proofs.sets.run_heap.Goals as goal

pub run_launched-requires-clause-ready : goal.run_launched-requires-clause-ready
run_launched-requires-clause-ready g c = λ κs below.
    let r = c.requires.can in
    let heap = c.args.heap in
    let l = c.in-Ok.ensures.ready r.0 r.1 r.2 in (
      opening_over r.0 heap.spaces.heap.memory (entries_in r.2.directory)
          (launch_over c.args.set.now.linked c.args.main.now c.args.limits.now heap.graph l.literals),
      heap.free,
      l.ready,
    )

pub run_launched-requires-clause-empty : goal.run_launched-requires-clause-empty
run_launched-requires-clause-empty g c = λ κs below.
    let r = c.requires.can in (c.in-Ok.ensures.ready r.0 r.1 r.2).empty

pub returns-in-Ok-clause-ran : goal.returns-in-Ok-clause-ran
returns-in-Ok-clause-ran g c = λ start old can.
    let set = c.args.set.now.linked in
    let heap = c.args.heap in
    let result = c.run_launched.result in
    let after = g.I.Image.told result.image in
    let l = c.in-Ok.ensures.ready start old can in
    let o = opening_over start heap.spaces.heap.memory (entries_in can.directory)
    (launch_over set c.args.main.now c.args.limits.now heap.graph l.literals) in
    has_run_over old set c.args.class.now c.args.limits.now start heap can c.args.main.now c.requires.main
    c.in-Ok.launched l (g.S.Sink.takes c.args.sink) result.opening result.acts.acts after result.status
    (subst (λ (graph : Graph). RanBy o heap.free set graph (g.S.Sink.takes c.args.sink) result.opening
    result.acts.acts after result.status)
    c.in-Ok.ensures.graph (c.run_launched.ensures.ran o heap.free l.ready))
    c.each_stop_is_allowed.ensures.stops

pub returns-in-Ok-clause-image_fault : goal.returns-in-Ok-clause-image_fault
returns-in-Ok-clause-image_fault g c = λ is.
    let r = c.requires.can in
    subst (λ (m : Memory). g.I.Image.faults c.run_launched.result.image ≡ next_count m.faults)
    (c.in-Ok.ensures.ready r.0 r.1 r.2).memory (c.run_launched.ensures.image_fault is)

pub returns-in-Ok-clause-image_spared : goal.returns-in-Ok-clause-image_spared
returns-in-Ok-clause-image_spared g c = λ isnt.
    let r = c.requires.can in
    subst (λ (m : Memory). g.I.Image.faults c.run_launched.result.image ≡ m.faults)
    (c.in-Ok.ensures.ready r.0 r.1 r.2).memory (c.run_launched.ensures.image_spared isnt)

pub returns-in-Err-clause-ran : goal.returns-in-Err-clause-ran
returns-in-Err-clause-ran g c = λ start old can.
    let set = c.args.set.now.linked in
    let heap = c.args.heap in
    rw (
      c.unbegun.ensures.opening,
      c.unbegun.ensures.acts,
      c.unbegun.ensures.image,
      c.unbegun.ensures.status,
      c.of_undecoded-status.ensures,
    )
    (unstarted_ran old set start heap.spaces.heap.memory can.directory can.lines heap.graph heap.free can.opened
    c.args.class.now c.args.limits.now (g.I.Image.told c.into_image.result)
    (c.into_image.ensures.told ∙ ap (λ (m : Memory). m.image) c.in-Err.ensures.given_back)
    (c.into_image.ensures.size ∙ ap (λ (m : Memory). m.size) c.in-Err.ensures.given_back))

pub returns-in-Err-clause-told : goal.returns-in-Err-clause-told
returns-in-Err-clause-told g c =
    rw (c.unbegun.ensures.acts, c.unbegun.ensures.watcher, c.unbegun.ensures.sink)
    (tells_nothing (g.W.Watcher.seen c.args.watcher) (g.S.Sink.taken c.args.sink) (g.S.Sink.takes c.args.sink))

pub returns-in-Err-clause-sink_spared : goal.returns-in-Err-clause-sink_spared
returns-in-Err-clause-sink_spared g c = λ isnt. rw c.unbegun.ensures.sink refl

pub returns-in-Err-clause-image_spared : goal.returns-in-Err-clause-image_spared
returns-in-Err-clause-image_spared g c = λ isnt. rw c.unbegun.ensures.image (c.into_image.ensures.faults ∙ ap (λ (m : Memory). m.faults) c.in-Err.ensures.given_back)
