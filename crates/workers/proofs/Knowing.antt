-- What a run under a lock knows, from its beginning on.
use Rattle.std.proofs.Common.{◌≡◌, ℕ, length, true, false, List, Option, Some, None, refl, ap, sym, subst, ◌∙◌}
use Rattle.std.specs.Prelude.{IfSome, is_some}
use Rattle.ap_base.specs.declared.reference.Ref.{Ref}
use Rattle.ap_base.specs.declared.reference.Item.{Item}
use Rattle.run_types.specs.declared.fault.RunFault.{RunFault}
use Rattle.natives.specs.declared.methods.Native.{Native}
use Rattle.natives.specs.declared.states.NativeState.{NativeState}
use Rattle.run_history.specs.Recorded.{Recorded}
use Rattle.plain_model.specs.Facts.{SetFacts}
use Rattle.frames.specs.Settings.{Setting}
use Rattle.run_forms.specs.Views.{ThreadFrames}
use Rattle.durable_run.specs.Passed.{Opening, memory_of}
use Rattle.durable_run.specs.Passed.{Shared}
use Rattle.durable_run.specs.Passed.{Halt}
use Rattle.durable_run.specs.Passed.{Stuck, fault_of_halt}
use Rattle.durable_run.specs.declared.runs.RunEnd.{RunEnd}
use Rattle.durable_run.specs.declared.runs.RunEnd.TheVariants as ends
use Rattle.durable_run.specs.declared.steps.Stepped.{Stepped}
use Rattle.durable_run.specs.declared.steps.Stepped.TheVariants.{Acted, Micro, WouldWait, Over}
use Rattle.durable_run.specs.Events.{StepsBehind, StepsTo, fault_of}
use Rattle.durable_run.specs.Shares.{PrintsShares}
use Rattle.durable_run.specs.Telling.{HasTold, IsCaused}
use Rattle.durable_run.specs.Turning.{EndsAt, EndsBy, IsReady, fault_in}
use Rattle.workers.specs.Held.{Began, GoesOn, HasLeft, Held, Holds, IsOf, Knows, began, held}
use Rattle.durable_run.proofs.Ending.{size-same, waits-long}
use Rattle.durable_run.proofs.Sharing.{shares-both, shares-nothing}
use Rattle.durable_run.proofs.Telling.{caused-since, told-both, told-nothing}

-- Where events of thread t have led, of which the last went so: a wait's heap before it is forgotten.
abbrev pub ComesTo : Opening → ℕ → SetFacts → Setting Native Ref (NativeState Ref) Item → ℕ → Stepped → Shared
    → List ThreadFrames → Type 0
ComesTo o first set x t (Over halt) new frames = EndsAt o first t (fault_of_halt new halt) new
ComesTo o first set x t went new frames = IsReady o first set x new frames

pub none-of : (over : Option RunFault) → is_some over ≡ false → over ≡ None
none-of None is = refl
none-of (Some f) is = absurd (let no : true ≡ false = is in cc)

-- of the same run, with its frames told in another way
pub knows-as : (entry : Option Began) (s : Shared) (frames frames' : List ThreadFrames) (seen : Option (List Recorded))
    (taken : Option (List ℕ)) (takes : ℕ → ℕ → Option ℕ) (faults : ℕ) (over over' : Option RunFault)
    → Knows entry (held s frames seen taken faults over) takes → frames ≡ frames' → over ≡ over'
    → Knows entry (held s frames' seen taken faults over') takes
knows-as entry s frames frames' seen taken takes faults over over' knows same how =
    subst (λ (all : List ThreadFrames). Knows entry (held s all seen taken faults over') takes) same
    (subst (λ (f : Option RunFault). Knows entry (held s frames seen taken faults f) takes) how knows)

-- a run that isn't over has the frames of 64 threads
pub many-frames : (entry : Option Began) (s : Shared) (frames : List ThreadFrames) (seen : Option (List Recorded))
    (taken : Option (List ℕ)) (takes : ℕ → ℕ → Option ℕ) (faults : ℕ) → Knows entry (held s frames seen taken faults None) takes
    → length frames ≡ 64
many-frames entry s frames seen taken takes faults knows =
    let e = knows.0 in
    let some = knows.2.some in
    let ready : IsReady some.0 some.1 e.set e.setting s frames = knows.2.goes some.0 some.1 some.2 in
    ready.many

module _ (set : SetFacts) (x : Setting Native Ref (NativeState Ref) Item) where
  pub starts : (entry : Option Began) (s : Shared) (frames : List ThreadFrames) (seen : Option (List Recorded))
      (taken : Option (List ℕ)) (takes : ℕ → ℕ → Option ℕ) (faults : ℕ) → entry ≡ Some (began set x s frames seen taken takes faults)
      → ((o : Opening) × (first : ℕ) × IsReady o first set x s frames)
      → Knows entry (held s frames seen taken faults None) takes
  starts entry s frames seen taken takes faults is ready = (
    began set x s frames seen taken takes faults,
    is,
    record {
      some = ready;
      goes = λ o first now. now;
      told = told-nothing s.history.acts seen taken;
      shares = λ o first now. shares-nothing o.launch takes s.history.acts;
      cause = (refl, refl);
    },
  )

  -- one event alone
  pub comes-of : (o : Opening) (first t : ℕ) (went : Stepped) (old new : Shared) (frames : List ThreadFrames)
      → StepsTo o first set x t went old new frames → ComesTo o first set x t went new frames
  comes-of o first t Acted old new frames steps = steps
  comes-of o first t Micro old new frames steps = steps
  comes-of o first t (WouldWait on) old new frames steps = steps.0
  comes-of o first t (Over halt) old new frames steps = steps

  -- one event behind pauses
  pub comes-behind : (pauses : ℕ) (o : Opening) (first t : ℕ) (went : Stepped) (old new : Shared) (frames : List ThreadFrames)
      → StepsBehind pauses o first set x t went old new frames → ComesTo o first set x t went new frames
  comes-behind pauses o first t went old new frames steps = comes-of o first t went steps.0 new frames steps.2

  goes-on : (o : Opening) (first t : ℕ) (went : Stepped) (new : Shared) (frames : List ThreadFrames)
      → ComesTo o first set x t went new frames → GoesOn o first set x (fault_of new went) new frames
  goes-on o first t Acted new frames comes = comes
  goes-on o first t Micro new frames comes = comes
  goes-on o first t (WouldWait on) new frames comes = comes
  goes-on o first t (Over halt) new frames comes = (comes.0, (t, comes.1))

  pub of-entry : (entry : Option Began) (e : Began) → entry ≡ Some e → IsOf set x entry → (set ≡ e.set) × (x ≡ e.setting)
  of-entry entry e is same = subst (λ (b : Option Began). IsOf set x b) is same

  -- An event of some opening may come, where the run isn't over.
  pub ready-now : (entry : Option Began) (s : Shared) (frames : List ThreadFrames) (seen : Option (List Recorded))
      (taken : Option (List ℕ)) (takes : ℕ → ℕ → Option ℕ) (faults : ℕ) → Knows entry (held s frames seen taken faults None) takes
      → IsOf set x entry → (o : Opening) × (first : ℕ) × IsReady o first set x s frames
  ready-now entry s frames seen taken takes faults knows same =
      let e = knows.0 in
      let holds = knows.2 in
      let is = of-entry entry e knows.1 same in
      let o = holds.some.0 in
      let first = holds.some.1 in (
        o,
        first,
        subst (λ (y : Setting Native Ref (NativeState Ref) Item). IsReady o first set y s frames) (sym is.1)
            (subst (λ (f : SetFacts). IsReady o first f e.setting s frames) (sym is.0)
            (holds.goes o first holds.some.2)),
      )

  module _ (entry : Option Began) (t : ℕ) (went : Stepped) (old new : Shared) (before after : List ThreadFrames)
      (seen seen' : Option (List Recorded)) (taken taken' : Option (List ℕ)) (takes takes' : ℕ → ℕ → Option ℕ) (faults faults' : ℕ) where
    -- events, of which the last went so
    pub steps-on : Knows entry (held old before seen taken faults None) takes → IsOf set x entry
        → ((o : Opening) (first : ℕ) → IsReady o first set x old before → ComesTo o first set x t went new after)
        → HasTold old.history.acts new.history.acts seen seen' taken taken'
        → ((o : Opening) (first : ℕ) → IsReady o first set x old before
        → PrintsShares o.launch takes takes' old.history.acts new.history.acts)
        → IsCaused (fault_of new went) faults faults' (memory_of old.machine).faults (memory_of new.machine).faults
        → Knows entry (held new after seen' taken' faults' (fault_of new went)) takes'
    steps-on knows same steps told shares cause =
        let e = knows.0 in
        let holds = knows.2 in
        let is = of-entry entry e knows.1 same in (
          e,
          knows.1,
          record {
            some = holds.some;
            goes = λ (o : Opening) (first : ℕ) (was : IsReady o first e.set e.setting e.heap e.frames).
                let ready : IsReady o first e.set e.setting old before = holds.goes o first was in
                let mine : IsReady o first set x old before =
                subst (λ (y : Setting Native Ref (NativeState Ref) Item). IsReady o first set y old before) (sym is.1)
                (subst (λ (f : SetFacts). IsReady o first f e.setting old before) (sym is.0) ready) in
                let now : GoesOn o first set x (fault_of new went) new after =
                goes-on o first t went new after (steps o first mine) in
                subst (λ (y : Setting Native Ref (NativeState Ref) Item). GoesOn o first e.set y (fault_of new went) new after)
                is.1 (subst (λ (f : SetFacts). GoesOn o first f x (fault_of new went) new after) is.0 now);
            told = told-both _ _ _ _ _ _ _ _ _ holds.told told;
            shares = λ (o : Opening) (first : ℕ) (was : IsReady o first e.set e.setting e.heap e.frames).
                let ready : IsReady o first e.set e.setting old before = holds.goes o first was in
                let mine : IsReady o first set x old before =
                subst (λ (y : Setting Native Ref (NativeState Ref) Item). IsReady o first set y old before) (sym is.1)
                (subst (λ (f : SetFacts). IsReady o first f e.setting old before) (sym is.0) ready) in
                shares-both o.launch e.takes takes takes' e.heap.history.acts old.history.acts new.history.acts
                (holds.shares o first was) (shares o first mine);
            cause = caused-since (fault_of new went) _ _ _ _ _ _ holds.cause cause;
          },
        )

    pub steps-so : Knows entry (held old before seen taken faults None) takes → IsOf set x entry
        → ((o : Opening) (first : ℕ) → IsReady o first set x old before → ComesTo o first set x t went new after)
        → HasTold old.history.acts new.history.acts seen seen' taken taken'
        → ((o : Opening) (first : ℕ) → IsReady o first set x old before
        → PrintsShares o.launch takes takes' old.history.acts new.history.acts)
        → IsCaused (fault_of new went) faults faults' (memory_of old.machine).faults (memory_of new.machine).faults
        → (over : Option RunFault) → over ≡ fault_of new went → Knows entry (held new after seen' taken' faults' over) takes'
    steps-so knows same steps told shares cause over is =
        subst (λ (f : Option RunFault). Knows entry (held new after seen' taken' faults' f) takes') (sym is)
        (steps-on knows same steps told shares cause)

  -- where events of thread t left the run over, each of the 64 threads' waits is noted
  pub noted-waits : (t : ℕ) (halt : Halt) (went : Stepped) (old new : Shared) (before after : List ThreadFrames)
      → ((o : Opening) × (first : ℕ) × IsReady o first set x old before)
      → ((o : Opening) (first : ℕ) → IsReady o first set x old before → ComesTo o first set x t went new after)
      → went ≡ Over halt → halt ≡ Stuck → length new.notes.waits ≡ 64
  noted-waits t halt went old new before after ready steps is stuck =
      let over : ComesTo ready.0 ready.1 set x t (Over halt) new after =
      subst (λ (w : Stepped). ComesTo ready.0 ready.1 set x t w new after) is (steps ready.0 ready.1 ready.2) in
      waits-long ready.0 ready.1 halt new (over.0, (t, over.1)) stuck

-- an event that isn't the last left no fault
pub no-fault : (s : Shared) (went : Stepped) → ((halt : Halt) → went ≡ Over halt → ⊥) → fault_of s went ≡ None
no-fault s Acted isnt = refl
no-fault s Micro isnt = refl
no-fault s (WouldWait on) isnt = refl
no-fault s (Over halt) isnt = absurd (isnt halt refl)

-- ---- the end

module _ (entry : Option Began) (k : Held) (s : Shared) (frames : List ThreadFrames) (seen : Option (List Recorded))
    (taken : Option (List ℕ)) (takes : ℕ → ℕ → Option ℕ) (faults : ℕ) (over : Option RunFault)
    (is : k ≡ held s frames seen taken faults over) where
  of-held : (how : Option RunFault) → over ≡ how → (e : Began) → Holds e k takes → Holds e (held s frames seen taken faults how) takes
  of-held how same e holds =
      subst (λ (f : Option RunFault). Holds e (held s frames seen taken faults f) takes) same
      (subst (λ (h : Held). Holds e h takes) is holds)

  -- it wasn't over
  pub knows-again : Knows entry k takes → k.over ≡ None → Knows entry (held s frames seen taken faults None) takes
  knows-again knows none = (knows.0, knows.1, of-held None (sym (ap (λ (h : Held). h.over) is) ∙ none) knows.0 knows.2)

  -- the run was over under the lock
  pub left-over : Knows entry k takes → (f : RunFault) → over ≡ Some f
      → IfSome entry (λ e. HasLeft e (ends.Over f) s seen taken takes faults)
  left-over knows f same =
      let e = knows.0 in
      let holds = of-held (Some f) same e knows.2 in
      let r = holds.some in
      subst (λ (b : Option Began). IfSome b (λ e. HasLeft e (ends.Over f) s seen taken takes faults)) (sym knows.1) (record {
        ends = holds.goes;
        told = holds.told;
        shares = holds.shares;
        cause = holds.cause;
        size = size-same r.0 r.1 e.set e.setting e.heap s e.frames r.2 (holds.goes r.0 r.1 r.2).0;
      })

  -- it wasn't over, and all threads have ended
  pub left-ended : Knows entry k takes → over ≡ None → (end : RunEnd)
      → ((o : Opening) (first : ℕ) (set : SetFacts) (x : Setting Native Ref (NativeState Ref) Item) (all : List ThreadFrames)
      → IsReady o first set x s all → EndsBy o first end s) → fault_in end ≡ None
      → IfSome entry (λ e. HasLeft e end s seen taken takes faults)
  left-ended knows none end ends spared =
      let e = knows.0 in
      let holds = of-held None none e knows.2 in
      let r = holds.some in
      subst (λ (b : Option Began). IfSome b (λ e. HasLeft e end s seen taken takes faults)) (sym knows.1) (record {
        ends = λ (o : Opening) (first : ℕ) (was : IsReady o first e.set e.setting e.heap e.frames).
            ends o first e.set e.setting frames (holds.goes o first was);
        told = holds.told;
        shares = holds.shares;
        cause = subst (λ (f : Option RunFault). IsCaused f e.faults faults (memory_of e.heap.machine).faults (memory_of s.machine).faults)
            (sym spared) holds.cause;
        size =
            let now : IsReady r.0 r.1 e.set e.setting s frames = holds.goes r.0 r.1 r.2 in
            now.running.runs.keeps.heap.size ∙ sym r.2.running.runs.keeps.heap.size;
      })

  pub knows-none : Knows entry k takes → over ≡ None → Knows entry (held s frames seen taken faults None) takes
  knows-none knows none = (knows.0, knows.1, of-held None none knows.0 knows.2)

  module _ (set : SetFacts) (x : Setting Native Ref (NativeState Ref) Item) where
    -- An event of some opening may come, where it wasn't over.
    pub ready-left : Knows entry k takes → IsOf set x entry → over ≡ None → (o : Opening) × (first : ℕ) × IsReady o first set x s frames
    ready-left knows same none = ready-now set x entry s frames seen taken takes faults (knows-none knows none) same

    -- it went on so, to its end
    pub left-rest : Knows entry k takes → IsOf set x entry → over ≡ None → (end : RunEnd) (s' : Shared)
        (seen' : Option (List Recorded)) (taken' : Option (List ℕ)) (takes' : ℕ → ℕ → Option ℕ) (faults' : ℕ)
        → ((o : Opening) (first : ℕ) → IsReady o first set x s frames → EndsBy o first end s')
        → HasTold s.history.acts s'.history.acts seen seen' taken taken'
        → ((o : Opening) (first : ℕ) → IsReady o first set x s frames
        → PrintsShares o.launch takes takes' s.history.acts s'.history.acts)
        → IsCaused (fault_in end) faults faults' (memory_of s.machine).faults (memory_of s'.machine).faults
        → (memory_of s'.machine).size ≡ (memory_of s.machine).size
        → IfSome entry (λ e. HasLeft e end s' seen' taken' takes' faults')
    left-rest knows same none end s' seen' taken' takes' faults' goes told shares cause size =
        let e = knows.0 in
        let holds = of-held None none e knows.2 in
        let of = of-entry set x entry e knows.1 same in
        let r = holds.some in
        let mine = λ (o : Opening) (first : ℕ) (was : IsReady o first e.set e.setting e.heap e.frames).
        subst (λ (y : Setting Native Ref (NativeState Ref) Item). IsReady o first set y s frames) (sym of.1)
        (subst (λ (f : SetFacts). IsReady o first f e.setting s frames) (sym of.0) (holds.goes o first was)) in
        subst (λ (b : Option Began). IfSome b (λ e. HasLeft e end s' seen' taken' takes' faults')) (sym knows.1) (record {
          ends = λ (o : Opening) (first : ℕ) (was : IsReady o first e.set e.setting e.heap e.frames).
              goes o first (mine o first was);
          told = told-both _ _ _ _ _ _ _ _ _ holds.told told;
          shares = λ (o : Opening) (first : ℕ) (was : IsReady o first e.set e.setting e.heap e.frames).
              shares-both o.launch e.takes takes takes' e.heap.history.acts s.history.acts s'.history.acts
              (holds.shares o first was) (shares o first (mine o first was));
          cause = caused-since (fault_in end) _ _ _ _ _ _ holds.cause cause;
          size =
              let now : IsReady r.0 r.1 e.set e.setting s frames = holds.goes r.0 r.1 r.2 in
              size ∙ (now.running.runs.keeps.heap.size ∙ sym r.2.running.runs.keeps.heap.size);
        })

-- what is left of the run of this name
pub left-of : (entry : Option Began) (b : Began) → entry ≡ Some b → (end : RunEnd) (s : Shared) (seen : Option (List Recorded))
    (taken : Option (List ℕ)) (takes : ℕ → ℕ → Option ℕ) (faults : ℕ) → IfSome entry (λ e. HasLeft e end s seen taken takes faults)
    → HasLeft b end s seen taken takes faults
left-of entry b is end s seen taken takes faults left =
    subst (λ (e : Option Began). IfSome e (λ e. HasLeft e end s seen taken takes faults)) is left
