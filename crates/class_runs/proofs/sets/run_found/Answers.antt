use Rattle.std.proofs.Common.{sym, ◌∙◌, refl}
use Rattle.class_runs.proofs.Outside.{tells_nothing, unlaunched_by_image, unlaunched_by_sink}
use Rattle.class_runs.proofs.SetRan.{unfitted_ran}
use Rattle.class_runs.proofs.sets.run_found.Goals as goal

pub run_main-requires-clause-fits : goal.run_main-requires-clause-fits
run_main-requires-clause-fits g c = λ κs below. c.in-Ok.ensures.room

pub returns-in-Err-clause-ran : goal.returns-in-Err-clause-ran
returns-in-Err-clause-ran g c = λ start old is.
    let found = c.args.found in
    rw (c.unbegun.ensures.opening, c.unbegun.ensures.acts, c.unbegun.ensures.image, c.unbegun.ensures.status, c.of_unlaunched.ensures)
    (unfitted_ran old c.args.set.now.linked start found.memory found.directory found.lines found.graph found.free is
    c.args.class.now c.args.limits.now (g.I.Image.told c.into_image-image.result) c.in-Err.why
    c.into_image-image.ensures.told c.into_image-image.ensures.size c.in-Err.ensures.full)

pub returns-in-Err-clause-told : goal.returns-in-Err-clause-told
returns-in-Err-clause-told g c =
    rw (c.unbegun.ensures.acts, c.unbegun.ensures.watcher, c.unbegun.ensures.sink)
    (tells_nothing (g.W.Watcher.seen c.args.watcher) (g.S.Sink.taken c.args.sink) (g.S.Sink.takes c.args.sink))

pub returns-in-Err-clause-sink_fault : goal.returns-in-Err-clause-sink_fault
returns-in-Err-clause-sink_fault g c = λ is.
    absurd (unlaunched_by_sink c.in-Err.why (sym (c.unbegun.ensures.status ∙ c.of_unlaunched.ensures) ∙ is))

pub returns-in-Err-clause-image_fault : goal.returns-in-Err-clause-image_fault
returns-in-Err-clause-image_fault g c = λ is.
    absurd (unlaunched_by_image c.in-Err.why (sym (c.unbegun.ensures.status ∙ c.of_unlaunched.ensures) ∙ is))

pub returns-in-Err-clause-sink_spared : goal.returns-in-Err-clause-sink_spared
returns-in-Err-clause-sink_spared g c = λ isnt. rw c.unbegun.ensures.sink refl

pub returns-in-Err-clause-image_spared : goal.returns-in-Err-clause-image_spared
returns-in-Err-clause-image_spared g c = λ isnt. rw c.unbegun.ensures.image (c.into_image-image.ensures.faults)
