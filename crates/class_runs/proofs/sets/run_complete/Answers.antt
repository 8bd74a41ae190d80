use Rattle.std.proofs.Common.{refl, ◌∙◌}
use Rattle.class_runs.proofs.Outside.{next_since, tells_nothing}
use Rattle.class_runs.proofs.SetRan.{unappended_ran}
use Rattle.class_runs.proofs.sets.run_complete.Goals as goal

pub run_opened-requires-clause-opened : goal.run_opened-requires-clause-opened
run_opened-requires-clause-opened g c = λ κs below.
    let o = c.requires.found in (o.0, o.1, c.in-Ok.ensures.opened o.0 o.1 c.args.set.now.linked o.2)

pub returns-in-Ok-clause-ran : goal.returns-in-Ok-clause-ran
returns-in-Ok-clause-ran g c = λ start old is.
    c.run_opened.ensures.ran start old (c.in-Ok.ensures.opened start old c.args.set.now.linked is)

pub returns-in-Ok-clause-image_fault : goal.returns-in-Ok-clause-image_fault
returns-in-Ok-clause-image_fault g c = λ is.
    next_since c.args.found.memory.faults c.in-Ok.opened.memory.faults (g.I.Image.faults c.run_opened.result.image)
    c.in-Ok.ensures.spared (c.run_opened.ensures.image_fault is)

pub returns-in-Ok-clause-image_spared : goal.returns-in-Ok-clause-image_spared
returns-in-Ok-clause-image_spared g c = λ isnt. c.run_opened.ensures.image_spared isnt ∙ c.in-Ok.ensures.spared

pub returns-in-Err-clause-ran : goal.returns-in-Err-clause-ran
returns-in-Err-clause-ran g c = λ start old is.
    rw (c.unbegun.ensures.opening, c.unbegun.ensures.acts, c.unbegun.ensures.image, c.unbegun.ensures.status)
    (unappended_ran old c.args.set.now.linked c.args.class.now c.args.limits.now start (g.I.Image.told c.in-Err.image)
    (c.in-Err.ensures.unappended start old c.args.set.now.linked is))

pub returns-in-Err-clause-told : goal.returns-in-Err-clause-told
returns-in-Err-clause-told g c =
    rw (c.unbegun.ensures.acts, c.unbegun.ensures.watcher, c.unbegun.ensures.sink)
    (tells_nothing (g.W.Watcher.seen c.args.watcher) (g.S.Sink.taken c.args.sink) (g.S.Sink.takes c.args.sink))

pub returns-in-Err-clause-image_fault : goal.returns-in-Err-clause-image_fault
returns-in-Err-clause-image_fault g c = λ is. rw c.unbegun.ensures.image c.in-Err.ensures.failed

pub returns-in-Err-clause-image_spared : goal.returns-in-Err-clause-image_spared
returns-in-Err-clause-image_spared g c = λ isnt. absurd (isnt c.unbegun.ensures.status)

pub returns-in-Err-clause-sink_spared : goal.returns-in-Err-clause-sink_spared
returns-in-Err-clause-sink_spared g c = λ isnt. rw c.unbegun.ensures.sink refl
