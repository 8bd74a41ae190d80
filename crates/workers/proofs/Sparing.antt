-- What a run under a lock knows of its sink, from its beginning on.
use Rattle.std.proofs.Common.{◌≡◌, ℕ, List, Option, Some, None, sym, subst, ◌∙◌}
use Rattle.std.specs.Prelude.{IfSome}
use Rattle.ap_base.specs.declared.reference.Ref.{Ref}
use Rattle.ap_base.specs.declared.reference.Item.{Item}
use Rattle.run_types.specs.declared.fault.RunFault.{RunFault}
use Rattle.natives.specs.declared.methods.Native.{Native}
use Rattle.natives.specs.declared.states.NativeState.{NativeState}
use Rattle.run_history.specs.Recorded.{Recorded}
use Rattle.plain_model.specs.Facts.{SetFacts}
use Rattle.frames.specs.Settings.{Setting}
use Rattle.run_forms.specs.Views.{ThreadFrames}
use Rattle.durable_run.specs.Passed.{Opening, Shared}
use Rattle.durable_run.specs.Sparing.{SparesSink}
use Rattle.durable_run.specs.Turning.{IsReady}
use Rattle.durable_run.proofs.Sparing.{spares-both, spares-nothing}
use Rattle.workers.specs.Held.{Began, Holds, IsOf, Knows, KnowsSink, SparesSince, held}
use Rattle.workers.proofs.Frames.{some-one}
use Rattle.workers.proofs.Knowing.{of-entry}

module _ {S : Type 0} (taken : S → Option (List ℕ)) (entry : Option Began) (first : Option S) where
  -- of a run that begins
  pub sink-starts : (e : Began) (sink : S) → entry ≡ Some e → first ≡ Some sink → KnowsSink taken entry first None sink e.heap
  sink-starts e sink is from = (e, sink, is, from, λ o n now. spares-nothing taken o.launch sink e.heap.history.acts)

  pub sink-over : (over how : Option RunFault) (last : S) (s : Shared) → over ≡ how → KnowsSink taken entry first over last s
      → KnowsSink taken entry first how last s
  sink-over over how last s same knows = subst (λ (f : Option RunFault). KnowsSink taken entry first f last s) same knows

  -- of the run of this name
  pub sink-left : (over : Option RunFault) (last : S) (s : Shared) → KnowsSink taken entry first over last s
      → IfSome entry (λ e. IfSome first (λ sink. SparesSince taken e over sink last s))
  sink-left over last s knows =
      subst (λ (b : Option Began). IfSome b (λ e. IfSome first (λ sink. SparesSince taken e over sink last s))) (sym knows.2)
      (subst (λ (f : Option S). IfSome f (λ sink. SparesSince taken knows.0 over sink last s)) (sym knows.3) knows.4)

  module _ (set : SetFacts) (x : Setting Native Ref (NativeState Ref) Item) (s : Shared) (frames : List ThreadFrames)
      (seen : Option (List Recorded)) (bytes : Option (List ℕ)) (takes : ℕ → ℕ → Option ℕ) (faults : ℕ)
      (knows : Knows entry (held s frames seen bytes faults None) takes) (of : IsOf set x entry) where
    -- it goes on from where an event may come, by an event or to its end
    pub sink-on : (sink last : S) → KnowsSink taken entry first None sink s → (over : Option RunFault) (new : Shared)
        → ((o : Opening) (n : ℕ) → IsReady o n set x s frames
        → SparesSink taken o.launch over sink last s.history.acts new.history.acts) → KnowsSink taken entry first over last new
    sink-on sink last before over new spares =
        let e = before.0 in
        let same : knows.0 ≡ e = some-one knows.0 e (sym knows.1 ∙ before.2) in
        let holds : Holds e (held s frames seen bytes faults None) takes =
        subst (λ (b : Began). Holds b (held s frames seen bytes faults None) takes) same knows.2 in
        let is = of-entry set x entry e before.2 of in (
          e,
          before.1,
          before.2,
          before.3,
          λ (o : Opening) (n : ℕ) (was : IsReady o n e.set e.setting e.heap e.frames).
              let ready : IsReady o n e.set e.setting s frames = holds.goes o n was in
              let mine : IsReady o n set x s frames =
              subst (λ (y : Setting Native Ref (NativeState Ref) Item). IsReady o n set y s frames) (sym is.1)
              (subst (λ (f : SetFacts). IsReady o n f e.setting s frames) (sym is.0) ready) in
              spares-both taken o.launch over before.1 sink last e.heap.history.acts s.history.acts new.history.acts
              (before.4 o n was) (spares o n mine),
        )
