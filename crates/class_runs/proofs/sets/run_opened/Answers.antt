use Rattle.std.proofs.Common.{ap, sym, ◌∙◌, refl}
use Rattle.line_memory.specs.Memory.{Memory}
use Rattle.class_runs.proofs.Outside.{tells_nothing, unlaunched_by_image, unlaunched_by_sink}
use Rattle.class_runs.proofs.SetRan.{unlaunched_ran}
use Rattle.class_runs.proofs.sets.run_opened.Goals as goal

pub run_heap-requires-clause-can : goal.run_heap-requires-clause-can
run_heap-requires-clause-can g c = λ κs below.
    let o = c.requires.opened in (o.0, o.1, c.in-Ok.ensures.can o.0 o.1 o.2)

pub returns-in-Ok-clause-ran : goal.returns-in-Ok-clause-ran
returns-in-Ok-clause-ran g c = λ start old opened.
    c.run_heap.ensures.ran start old (c.in-Ok.ensures.can start old opened)

pub returns-in-Err-clause-ran : goal.returns-in-Err-clause-ran
returns-in-Err-clause-ran g c = λ start old opened.
    rw (c.unbegun.ensures.opening, c.unbegun.ensures.acts, c.unbegun.ensures.image, c.unbegun.ensures.status, c.of_unlaunched.ensures)
    (unlaunched_ran old c.args.set.now.linked start c.args.opened.memory c.args.opened.directory c.args.opened.lines
    c.args.opened.graph c.args.opened.free opened c.args.class.now c.args.limits.now
    (g.I.Image.told c.into_image.result)
    c.in-Err.why (c.into_image.ensures.told ∙ ap (λ (m : Memory). m.image) c.in-Err.ensures.given_back)
    (c.into_image.ensures.size ∙ ap (λ (m : Memory). m.size) c.in-Err.ensures.given_back) c.requires.fits
    c.in-Err.ensures.full)

pub returns-in-Err-clause-told : goal.returns-in-Err-clause-told
returns-in-Err-clause-told g c =
    rw (c.unbegun.ensures.acts, c.unbegun.ensures.watcher, c.unbegun.ensures.sink)
    (tells_nothing (g.W.Watcher.seen c.args.watcher) (g.S.Sink.taken c.args.sink) (g.S.Sink.takes c.args.sink))

pub returns-in-Err-clause-sink_fault : goal.returns-in-Err-clause-sink_fault
returns-in-Err-clause-sink_fault g c = λ is.
    absurd (unlaunched_by_sink c.in-Err.why (sym (c.unbegun.ensures.status ∙ c.of_unlaunched.ensures) ∙ is))

pub returns-in-Err-clause-image_fault : goal.returns-in-Err-clause-image_fault
returns-in-Err-clause-image_fault g c = λ is.
    absurd (unlaunched_by_image c.in-Err.why (sym (c.unbegun.ensures.status ∙ c.of_unlaunched.ensures) ∙ is))

pub returns-in-Err-clause-sink_spared : goal.returns-in-Err-clause-sink_spared
returns-in-Err-clause-sink_spared g c = λ isnt. rw c.unbegun.ensures.sink refl

pub returns-in-Err-clause-image_spared : goal.returns-in-Err-clause-image_spared
returns-in-Err-clause-image_spared g c = λ isnt. rw c.unbegun.ensures.image (c.into_image.ensures.faults ∙ ap (λ (m : Memory). m.faults) c.in-Err.ensures.given_back)
