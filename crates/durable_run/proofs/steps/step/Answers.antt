use Rattle.std.proofs.Common.{◌≡◌, ◌∙◌, List, Option, ap, length, subst, sym}
use Rattle.std.specs.Prelude.{slice_set}
use Rattle.std.proofs.lemmas.List.{length-set}
use Rattle.ap_base.specs.declared.reference.Ref.{Ref}
use Rattle.ap_base.specs.declared.reference.Item.{Item}
use Rattle.natives.specs.declared.requests.Request.{Request}
use Rattle.frames.specs.Turns.{turn}
use Rattle.shared_objects.specs.declared.threads.ThreadState.{ThreadState}
use Rattle.run_forms.specs.Views.{ThreadFrames}
use Rattle.machine.specs.Passed.{asked_by}
use Rattle.durable_run.specs.Apart.{after_event}
use Rattle.durable_run.specs.Events.{LeavesAlone, RemembersAfter, StepsTo}
use Rattle.durable_run.specs.Telling.{AddsShare}
use Rattle.durable_run.specs.Turning.{asks_next}
use Rattle.durable_run.proofs.Places.{some-one}
use Rattle.durable_run.proofs.Stepping.{begun-at, elem-of, next-asked, none-asked, set-twice}
use Rattle.durable_run.proofs.steps.step.Goals as goal

pub begun-come-requires : goal.begun-come-requires
begun-come-requires g c =
    let r = c.requires.ready in
    record {
      of = elem-of r.0 r.1 (g.C.Types.facts c.args.set.now) (g.H.Host.setting c.args.host.now) c.args.run.now.heap
          c.args.run.now.frames.items c.args.t c.number-at.result c.index_mut.result.now r.2 c.requires.live
          c.number-at.ensures.same c.index_mut.ensures.value;
    }

pub step_come-went-requires : goal.step_come-went-requires
step_come-went-requires g c =
    let x = g.H.Host.setting c.args.host.now in
    let set = g.C.Types.facts c.args.set.now in
    let s = c.args.run.now.heap in
    let frames = c.args.run.now.frames.items in
    let unasked = none-asked c.has_asked.result (asked_by s.notes c.args.t) c.if-has_asked.false c.has_asked.ensures in
    let r = c.requires.ready in
    record {
      begun = (
        r.0,
        r.1,
        frames,
        c.index_mut.result.now,
        begun-at r.0 r.1 set x s frames c.args.t c.number-at.result c.index_mut.result.now r.2 c.requires.live
            c.number-at.ensures.same c.index_mut.ensures.value c.begun-come.result c.begun-come.new.frames
            c.index_mut-2.result.now unasked c.begun-come.ensures.come c.begun-come.ensures.of c.index_mut-2.ensures.value,
      );
    }

pub begin_after-requires : goal.begin_after-requires
begin_after-requires g c =
    let frames = c.args.run.now.frames.items in
    record {
      many = length-set (slice_set frames c.number-at.result c.begun-come.new.frames) c.number-at.result
          c.step_come-went.new.frames ∙ length-set frames c.number-at.result c.begun-come.new.frames
          ∙ c.requires.ready.2.many;
    }

pub returns-clause-goes : goal.returns-clause-goes
returns-clause-goes g c o first ready =
    let x = g.H.Host.setting c.args.host.now in
    let set = g.C.Types.facts c.args.set.now in
    let s = c.args.run.now.heap in
    let new = c.step_come-went.new.heap in
    let went = c.step_come-went.result in
    let frames = c.args.run.now.frames.items in
    let unasked = none-asked c.has_asked.result (asked_by s.notes c.args.t) c.if-has_asked.false c.has_asked.ensures in
    subst (StepsTo o first set x c.args.t went s new)
    (ap (after_event went s new) (sym (set-twice frames c.args.t c.number-at.result c.begun-come.new.frames
    c.step_come-went.new.frames c.number-at.ensures.same))
    ∙ sym (c.begin_after.ensures.begun s
    (c.count-before.ensures.count ∙ ap (λ (states : List ThreadState). length states) c.threads.ensures)))
    (c.step_come-went.ensures.goes o first frames c.index_mut.result.now
    (begun-at o first set x s frames c.args.t c.number-at.result c.index_mut.result.now ready c.requires.live
    c.number-at.ensures.same c.index_mut.ensures.value c.begun-come.result c.begun-come.new.frames
    c.index_mut-2.result.now unasked c.begun-come.ensures.come c.begun-come.ensures.of c.index_mut-2.ensures.value))

pub returns-clause-shares : goal.returns-clause-shares
returns-clause-shares g c o first ready =
    let x = g.H.Host.setting c.args.host.now in
    let set = g.C.Types.facts c.args.set.now in
    let s = c.args.run.now.heap in
    let frames = c.args.run.now.frames.items in
    let unasked = none-asked c.has_asked.result (asked_by s.notes c.args.t) c.if-has_asked.false c.has_asked.ensures in
    c.step_come-went.ensures.shares o first frames c.index_mut.result.now
    (begun-at o first set x s frames c.args.t c.number-at.result c.index_mut.result.now ready c.requires.live
    c.number-at.ensures.same c.index_mut.ensures.value c.begun-come.result c.begun-come.new.frames
    c.index_mut-2.result.now unasked c.begun-come.ensures.come c.begun-come.ensures.of c.index_mut-2.ensures.value)

pub returns-clause-finds : goal.returns-clause-finds
returns-clause-finds g c o first ready =
    let x = g.H.Host.setting c.args.host.now in
    let set = g.C.Types.facts c.args.set.now in
    let s = c.args.run.now.heap in
    let frames = c.args.run.now.frames.items in
    let unasked = none-asked c.has_asked.result (asked_by s.notes c.args.t) c.if-has_asked.false c.has_asked.ensures in
    c.step_come-went.ensures.finds o first frames c.index_mut.result.now
    (begun-at o first set x s frames c.args.t c.number-at.result c.index_mut.result.now ready c.requires.live
    c.number-at.ensures.same c.index_mut.ensures.value c.begun-come.result c.begun-come.new.frames
    c.index_mut-2.result.now unasked c.begun-come.ensures.come c.begun-come.ensures.of c.index_mut-2.ensures.value)

-- ---- of what its thread asks

pub returns-clause-remembers : goal.returns-clause-remembers
returns-clause-remembers g c fs there =
    let x = g.H.Host.setting c.args.host.now in
    let set = g.C.Types.facts c.args.set.now in
    let s = c.args.run.now.heap in
    let frames = c.args.run.now.frames.items in
    let unasked = none-asked c.has_asked.result (asked_by s.notes c.args.t) c.if-has_asked.false c.has_asked.ensures in
    let r = c.requires.ready in
    let begun = begun-at r.0 r.1 set x s frames c.args.t c.number-at.result c.index_mut.result.now r.2 c.requires.live
    c.number-at.ensures.same c.index_mut.ensures.value c.begun-come.result c.begun-come.new.frames
    c.index_mut-2.result.now unasked c.begun-come.ensures.come c.begun-come.ensures.of c.index_mut-2.ensures.value in
    let is = some-one fs c.index_mut.result.now (sym there ∙ begun.there) in
    subst (λ (q : Option (Request Ref Item)). RemembersAfter c.args.t (asks_next x q fs) c.step_come-went.result s
    c.step_come-went.new.heap) (sym unasked)
    (subst (λ (gs : ThreadFrames). RemembersAfter c.args.t (turn x gs).asks c.step_come-went.result s
    c.step_come-went.new.heap) (sym is)
    (c.step_come-went.ensures.remembers r.0 r.1 frames c.index_mut.result.now begun))

pub returns-clause-share : goal.returns-clause-share
returns-clause-share g c fs there =
    let x = g.H.Host.setting c.args.host.now in
    let set = g.C.Types.facts c.args.set.now in
    let s = c.args.run.now.heap in
    let frames = c.args.run.now.frames.items in
    let takes = g.S.Sink.takes c.args.run.now.sink 0 in
    let unasked = none-asked c.has_asked.result (asked_by s.notes c.args.t) c.if-has_asked.false c.has_asked.ensures in
    let r = c.requires.ready in
    let begun = begun-at r.0 r.1 set x s frames c.args.t c.number-at.result c.index_mut.result.now r.2 c.requires.live
    c.number-at.ensures.same c.index_mut.ensures.value c.begun-come.result c.begun-come.new.frames
    c.index_mut-2.result.now unasked c.begun-come.ensures.come c.begun-come.ensures.of c.index_mut-2.ensures.value in
    let is = some-one fs c.index_mut.result.now (sym there ∙ begun.there) in
    subst (λ (q : Option (Request Ref Item)). AddsShare (asks_next x q fs) takes s.history.acts
    c.step_come-went.new.heap.history.acts) (sym unasked)
    (subst (λ (gs : ThreadFrames). AddsShare (turn x gs).asks takes s.history.acts
    c.step_come-went.new.heap.history.acts) (sym is)
    (c.step_come-went.ensures.share r.0 r.1 frames c.index_mut.result.now begun))

pub returns-clause-alone : goal.returns-clause-alone
returns-clause-alone g c fs there =
    let x = g.H.Host.setting c.args.host.now in
    let set = g.C.Types.facts c.args.set.now in
    let s = c.args.run.now.heap in
    let frames = c.args.run.now.frames.items in
    let Same = c.step_come-went.new.sink ≡ c.args.run.now.sink in
    let unasked = none-asked c.has_asked.result (asked_by s.notes c.args.t) c.if-has_asked.false c.has_asked.ensures in
    let r = c.requires.ready in
    let begun = begun-at r.0 r.1 set x s frames c.args.t c.number-at.result c.index_mut.result.now r.2 c.requires.live
    c.number-at.ensures.same c.index_mut.ensures.value c.begun-come.result c.begun-come.new.frames
    c.index_mut-2.result.now unasked c.begun-come.ensures.come c.begun-come.ensures.of c.index_mut-2.ensures.value in
    let is = some-one fs c.index_mut.result.now (sym there ∙ begun.there) in
    subst (λ (q : Option (Request Ref Item)). LeavesAlone c.args.t (asks_next x q fs) c.step_come-went.result s
    c.step_come-went.new.heap Same) (sym unasked)
    (subst (λ (gs : ThreadFrames). LeavesAlone c.args.t (turn x gs).asks c.step_come-went.result s
    c.step_come-went.new.heap Same) (sym is)
    (c.step_come-went.ensures.alone r.0 r.1 frames c.index_mut.result.now begun))

-- ---- a request goes on

pub returns-then-has_asked-clause-remembers : goal.returns-then-has_asked-clause-remembers
returns-then-has_asked-clause-remembers g c fs there =
    let x = g.H.Host.setting c.args.host.now in
    let s = c.args.run.now.heap in
    subst (λ (q : Option (Request Ref Item)). RemembersAfter c.args.t q c.continues.result s c.continues.new.run.heap)
    (sym (next-asked x (asked_by s.notes c.args.t) fs (c.has_asked.ensures.0 c.if-has_asked.true)))
    c.continues.ensures.remembers

pub returns-then-has_asked-clause-alone : goal.returns-then-has_asked-clause-alone
returns-then-has_asked-clause-alone g c fs there =
    let x = g.H.Host.setting c.args.host.now in
    let s = c.args.run.now.heap in
    subst (λ (q : Option (Request Ref Item)). LeavesAlone c.args.t q c.continues.result s c.continues.new.run.heap
    (c.continues.new.run.sink ≡ c.args.run.now.sink))
    (sym (next-asked x (asked_by s.notes c.args.t) fs (c.has_asked.ensures.0 c.if-has_asked.true)))
    c.continues.ensures.alone

pub returns-then-has_asked-clause-shares : goal.returns-then-has_asked-clause-shares
returns-then-has_asked-clause-shares g c = c.continues.ensures.shares

pub returns-then-has_asked-clause-spares : goal.returns-then-has_asked-clause-spares
returns-then-has_asked-clause-spares g c = c.continues.ensures.spares

pub returns-clause-spares : goal.returns-clause-spares
returns-clause-spares g c o first ready =
    let x = g.H.Host.setting c.args.host.now in
    let set = g.C.Types.facts c.args.set.now in
    let s = c.args.run.now.heap in
    let frames = c.args.run.now.frames.items in
    let unasked = none-asked c.has_asked.result (asked_by s.notes c.args.t) c.if-has_asked.false c.has_asked.ensures in
    c.step_come-went.ensures.spares o first frames c.index_mut.result.now
    (begun-at o first set x s frames c.args.t c.number-at.result c.index_mut.result.now ready c.requires.live
    c.number-at.ensures.same c.index_mut.ensures.value c.begun-come.result c.begun-come.new.frames
    c.index_mut-2.result.now unasked c.begun-come.ensures.come c.begun-come.ensures.of c.index_mut-2.ensures.value)
