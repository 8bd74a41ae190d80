use Rattle.std.proofs.Common.{List, ap, refl, subst, sym, ◌∙◌}
use Rattle.std.specs.Prelude.{All}
use Rattle.class_file.specs.declared.class.ClassFile.{ClassFile}
use Rattle.class_file.specs.Classes.{HasAtMost}
use Rattle.class_set.specs.Linked.{Linked}
use Rattle.durable_launch.proofs.Passed.{arrays_files}
use Rattle.class_runs.specs.Sets.{status_of_unopened}
use Rattle.class_runs.proofs.Outside.{failed_opening, never_by_sink, next_since, tells_nothing}
use Rattle.class_runs.proofs.SetRan.{unopened_ran}
use Rattle.class_runs.proofs.sets.run_set.Goals as goal

pub run_found-requires-clause-found : goal.run_found-requires-clause-found
run_found-requires-clause-found g c = λ κs below.
    (g.I.Image.told c.args.image, c.args.set.linked, c.in-Ok.ensures.found)

pub invariant_of-set : goal.invariant_of-set
invariant_of-set g c =
    let found = c.in-Ok.ensures.found in
    let same = ap (λ (s : Linked). s.files) found.fitted.set_is ∙ arrays_files c.args.set.linked found.found.shapes in
    record { small = subst (λ (files : List ClassFile). All (HasAtMost 1048576) files) (sym same) c.args.set.small }

pub returns-in-Ok-clause-ran : goal.returns-in-Ok-clause-ran
returns-in-Ok-clause-ran g c =
    c.run_found.ensures.ran (g.I.Image.told c.args.image) c.args.set.linked c.in-Ok.ensures.found

pub returns-in-Ok-clause-image_fault : goal.returns-in-Ok-clause-image_fault
returns-in-Ok-clause-image_fault g c = λ is.
    next_since (g.I.Image.faults c.args.image) c.in-Ok.found.memory.faults (g.I.Image.faults c.run_found.result.image)
    c.in-Ok.ensures.spared (c.run_found.ensures.image_fault is)

pub returns-in-Ok-clause-image_spared : goal.returns-in-Ok-clause-image_spared
returns-in-Ok-clause-image_spared g c = λ isnt. c.run_found.ensures.image_spared isnt ∙ c.in-Ok.ensures.spared

pub returns-in-Err-clause-ran : goal.returns-in-Err-clause-ran
returns-in-Err-clause-ran g c =
    rw (c.unbegun.ensures.opening, c.unbegun.ensures.acts, c.unbegun.ensures.image, c.unbegun.ensures.status, c.of_unopened.ensures)
    (unopened_ran c.args.set.linked c.find_for.new.set (g.I.Image.told c.args.image) (g.I.Image.told c.in-Err.image) c.in-Err.why
    c.args.class.now c.args.limits.now c.in-Err.ensures.unopened)

pub returns-in-Err-clause-told : goal.returns-in-Err-clause-told
returns-in-Err-clause-told g c =
    rw (c.unbegun.ensures.acts, c.unbegun.ensures.watcher, c.unbegun.ensures.sink)
    (tells_nothing (g.W.Watcher.seen c.args.watcher) (g.S.Sink.taken c.args.sink) (g.S.Sink.takes c.args.sink))

pub returns-in-Err-clause-sink_fault : goal.returns-in-Err-clause-sink_fault
returns-in-Err-clause-sink_fault g c = λ is.
    absurd (never_by_sink c.in-Err.why (sym (c.unbegun.ensures.status ∙ c.of_unopened.ensures) ∙ is))

pub returns-in-Err-clause-image_fault : goal.returns-in-Err-clause-image_fault
returns-in-Err-clause-image_fault g c = λ is.
    rw c.unbegun.ensures.image
    (c.in-Err.ensures.cause.failed (failed_opening c.in-Err.why (sym (c.unbegun.ensures.status ∙ c.of_unopened.ensures) ∙ is)))

pub returns-in-Err-clause-image_spared : goal.returns-in-Err-clause-image_spared
returns-in-Err-clause-image_spared g c = λ isnt.
    rw c.unbegun.ensures.image
    (c.in-Err.ensures.cause.spared (λ why. isnt (c.unbegun.ensures.status ∙ c.of_unopened.ensures ∙ ap status_of_unopened why)))

pub returns-in-Err-clause-sink_spared : goal.returns-in-Err-clause-sink_spared
returns-in-Err-clause-sink_spared g c = λ isnt. rw c.unbegun.ensures.sink refl
