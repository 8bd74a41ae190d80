use Rattle.std.proofs.Common.{◌∙◌, List, Some, refl, ap}
use Rattle.std.specs.Prelude.{slice_get}
use Rattle.run_history.specs.declared.act.Op.TheVariants as op
use Rattle.run_history.specs.declared.act.Stage.TheVariants as stage
use Rattle.run_history.specs.declared.plain.Progress.{Progress}
use Rattle.plain_heap.specs.Heaps.{shown_of}
use Rattle.plain_heap.specs.Laws.{one_key_in}
use Rattle.plain_machine.specs.Foreseeing.{op_begun}
use Rattle.plain_machine.proofs.Foreseen.{at-request, begin-foreseen, done-foreseen, end-foreseen, enter-foreseen, exit-asked}
use Rattle.plain_machine.proofs.Foreseen.{get-foreseen, init-foreseen, leave-foreseen, new-foreseen, others-foreseen}
use Rattle.plain_machine.proofs.Foreseen.{others-mild, put-foreseen, start-foreseen}
use Rattle.plain_machine.proofs.foreseeing.foreseen.Goals as goal

pub returns-in-New-clause-op : goal.returns-in-New-clause-op
returns-in-New-clause-op c set agrees asks =
    let h = shown_of c.args.heap.now in
    at-request set h c.args.rest.now c.args.t c.args.request.now _ c.begun.result _ c.in-New.is
    (c.begun.ensures ∙ ap (λ (ps : List Progress). op_begun c.in-New.class (slice_get ps
    c.in-New.class)) c.as_slice.ensures.value)
    (new-foreseen set h c.args.rest.now c.args.t c.in-New.from c.in-New.class)

pub returns-in-Init-clause-op : goal.returns-in-Init-clause-op
returns-in-Init-clause-op c set agrees asks =
    let h = shown_of c.args.heap.now in
    at-request set h c.args.rest.now c.args.t c.args.request.now _ c.begun-in-Init.result _ c.in-Init.is
    (c.begun-in-Init.ensures ∙ ap (λ (ps : List Progress). op_begun c.in-Init.class (slice_get ps
    c.in-Init.class)) c.as_slice-in-Init.ensures.value)
    (init-foreseen set h c.args.rest.now c.args.t c.in-Init.from c.in-Init.class)

pub returns-in-GetStatic-clause-op : goal.returns-in-GetStatic-clause-op
returns-in-GetStatic-clause-op c set agrees asks =
    let h = shown_of c.args.heap.now in
    at-request set h c.args.rest.now c.args.t c.args.request.now _ c.begun-in-GetStatic.result _
    c.in-GetStatic.is (c.begun-in-GetStatic.ensures ∙ ap (λ (ps : List Progress). op_begun
    c.in-GetStatic.field.class (slice_get ps c.in-GetStatic.field.class))
    c.as_slice-in-GetStatic.ensures.value)
    (get-foreseen set h c.args.rest.now c.args.t c.in-GetStatic.from c.in-GetStatic.field)

pub returns-in-PutStatic-clause-op : goal.returns-in-PutStatic-clause-op
returns-in-PutStatic-clause-op c set agrees asks =
    let h = shown_of c.args.heap.now in
    at-request set h c.args.rest.now c.args.t c.args.request.now _ c.begun-in-PutStatic.result _
    c.in-PutStatic.is (c.begun-in-PutStatic.ensures ∙ ap (λ (ps : List Progress). op_begun
    c.in-PutStatic.field.class (slice_get ps c.in-PutStatic.field.class))
    c.as_slice-in-PutStatic.ensures.value)
    (put-foreseen set h c.args.rest.now c.args.t c.in-PutStatic.from c.in-PutStatic.field
    c.in-PutStatic.value)

pub returns-in-Enter-clause-op : goal.returns-in-Enter-clause-op
returns-in-Enter-clause-op c set agrees asks =
    let h = shown_of c.args.heap.now in
    at-request set h c.args.rest.now c.args.t c.args.request.now _ c.entered.result _ c.in-Enter.is
    (c.entered.ensures)
    (enter-foreseen set h c.args.rest.now c.args.t c.in-Enter.from c.in-Enter.key)

pub returns-in-Exit-clause-op : goal.returns-in-Exit-clause-op
returns-in-Exit-clause-op c set agrees asks =
    let heap = c.args.heap.now in
    let h = shown_of heap in
    at-request set h c.args.rest.now c.args.t c.args.request.now _ c.exited.result _ c.in-Exit.is refl
    (exit-asked set h c.args.rest.now c.args.t
    (one_key_in heap.shapes heap.objects.items heap.statics.items heap.left) (λ r. refl) agrees.monitors
    c.in-Exit.from c.in-Exit.key c.exited.result c.exited.ensures.op)

pub returns-in-Start-clause-op : goal.returns-in-Start-clause-op
returns-in-Start-clause-op c set agrees asks =
    let h = shown_of c.args.heap.now in
    at-request set h c.args.rest.now c.args.t c.args.request.now _ c.started.result _ c.in-Start.is
    (c.started.ensures)
    (start-foreseen set h c.args.rest.now c.args.t c.in-Start.from c.in-Start.thread)

pub returns-in-End-clause-op : goal.returns-in-End-clause-op
returns-in-End-clause-op c set agrees asks =
    let h = shown_of c.args.heap.now in
    at-request set h c.args.rest.now c.args.t c.args.request.now _ c.raised.result _ c.in-End.is
    (c.raised.ensures)
    (end-foreseen set h c.args.rest.now c.args.t c.in-End.from)

pub returns-in-InitDone-clause-op : goal.returns-in-InitDone-clause-op
returns-in-InitDone-clause-op c set agrees asks =
    let h = shown_of c.args.heap.now in
    at-request set h c.args.rest.now c.args.t c.args.request.now _
    (Some (op.Init c.in-InitDone.class stage.Done)) _ c.in-InitDone.is (refl)
    (done-foreseen set h c.args.rest.now c.args.t c.in-InitDone.from c.in-InitDone.class)

pub returns-in-Begin-clause-op : goal.returns-in-Begin-clause-op
returns-in-Begin-clause-op c set agrees asks =
    let h = shown_of c.args.heap.now in
    at-request set h c.args.rest.now c.args.t c.args.request.now _
    (Some op.Begin) _ c.in-Begin.is (refl)
    (begin-foreseen set h c.args.rest.now c.args.t c.in-Begin.from)

pub returns-in-Leave-clause-op : goal.returns-in-Leave-clause-op
returns-in-Leave-clause-op c set agrees asks =
    let h = shown_of c.args.heap.now in
    at-request set h c.args.rest.now c.args.t c.args.request.now _
    (Some (op.Ended c.in-Leave.uncaught)) _ c.in-Leave.is (refl)
    (leave-foreseen set h c.args.rest.now c.args.t c.in-Leave.uncaught)

pub returns-in_default : goal.returns-in_default
returns-in_default c =
    let h = shown_of c.args.heap.now in
    let d = c.in_default in
    record {
      op = λ set agrees asks. others-foreseen set h c.args.rest.now c.args.t c.args.request.now asks.fit
          (others-mild set h c.args.rest.now c.args.t c.args.request.now d.not-New d.not-Init d.not-GetStatic
          d.not-PutStatic d.not-Enter d.not-Exit d.not-Start d.not-InitDone d.not-Begin d.not-End
          d.not-Leave);
      same = refl;
    }
