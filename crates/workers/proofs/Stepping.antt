-- What a run that host threads share knows behind an event.
use Rattle.std.proofs.Common.{◌≡◌, ◌≢◌, ℕ, zero, suc, ◌+◌, ◌<◌, length, Bool, true, false, not, List, [], ◌∷◌, Option, Some, None, refl, ap, sym, subst, ◌∙◌, arith}
use Rattle.std.specs.Prelude.{All, IsSome, slice_get, slice_set}
use Rattle.std.proofs.lemmas.List.Elements.{All-nil, All-cons}
use Rattle.std.proofs.lemmas.Option.{slice_get_within}
use Rattle.ap_base.specs.declared.reference.Ref.{Ref}
use Rattle.ap_base.specs.declared.reference.Item.{Item}
use Rattle.run_types.specs.declared.fault.RunFault.{RunFault}
use Rattle.natives.specs.declared.methods.Native.{Native}
use Rattle.natives.specs.declared.states.NativeState.{NativeState}
use Rattle.run_history.specs.Recorded.{Recorded}
use Rattle.plain_model.specs.Facts.{SetFacts}
use Rattle.frames.specs.Settings.{Setting}
use Rattle.shared_objects.specs.declared.threads.ThreadState.{ThreadState}
use Rattle.run_forms.specs.Views.{ThreadFrames}
use Rattle.durable_run.specs.Apart.{HasStretched, PauseOn, Pauses, after_event}
use Rattle.durable_run.specs.Events.{StepsBehind, fault_of}
use Rattle.durable_run.specs.Passed.{AreOf, Opening, Shared, asked_by, memory_of}
use Rattle.durable_run.specs.Shares.{PrintsShares}
use Rattle.durable_run.specs.Sparing.{SparesSink}
use Rattle.durable_run.specs.Telling.{HasTold, IsCaused}
use Rattle.durable_run.specs.Turning.{IsReady, is_live, lives}
use Rattle.durable_run.specs.declared.apart.Stretch.{Stretch}
use Rattle.durable_run.specs.declared.steps.Stepped.{Stepped}
use Rattle.workers.specs.Held.{Began, IsOf, Knows, KnowsSink, held}
use Rattle.workers.specs.Shared.{ComesSo, IsAskedAs, IsNext, IsOfRun, all_frames, begins_after, pauses_of}
use Rattle.workers.proofs.Frames.{begun-still, event-so, get-some, leaves-at, left-at, some-one}
use Rattle.workers.proofs.Knowing.{ComesTo, comes-behind, of-entry, ready-now, steps-so}
use Rattle.workers.proofs.Sparing.{sink-on, sink-over}

-- ---- threads that live

live-within : (states : List ThreadState) (t : ℕ) → is_live states t ≡ true → t < length states
live-within states t live = by-state (slice_get states t) refl live
  where
    by-state : (at : Option ThreadState) → slice_get states t ≡ at → lives at ≡ true → t < length states
    by-state None is e = absurd (let no : false ≡ true = e in cc)
    by-state (Some state) is e = slice_get_within states t state is

ended-at : (state : ThreadState) → not state.ended ≡ false → state.ended ≡ true
ended-at state e = not-false state.ended e
  where
    not-false : (b : Bool) → not b ≡ false → b ≡ true
    not-false true h = refl
    not-false false h = absurd (let no : true ≡ false = h in cc)

pub all-dead : (states : List ThreadState) → ((u : ℕ) → u < length states → is_live states u ≡ false)
    → All (λ (state : ThreadState). state.ended ≡ true) states
all-dead [] dead = All-nil (λ (state : ThreadState). state.ended ≡ true)
all-dead (s ∷ states) dead = All-cons (λ (state : ThreadState). state.ended ≡ true) s states
    (ended-at s (dead 0 (omega arith)))
    (all-dead states (λ u below. dead (suc u) (omega (arith, below))))

-- The frames of a thread that lives are of the run's program, where the run goes on.
pub program-at : (entry : Option Began) (s : Shared) (frames : List ThreadFrames) (seen : Option (List Recorded))
    (taken : Option (List ℕ)) (takes : ℕ → ℕ → Option ℕ) (faults : ℕ) → Knows entry (held s frames seen taken faults None) takes
    → (t : ℕ) (fs : ThreadFrames) → is_live s.machine.rest.threads t ≡ true → slice_get frames t ≡ Some fs → IsOfRun entry fs
program-at entry s frames seen taken takes faults knows t fs live there =
    let e = knows.0 in
    let holds = knows.2 in
    let ready : IsReady holds.some.0 holds.some.1 e.set e.setting s frames = holds.goes holds.some.0 holds.some.1 holds.some.2 in
    let within = live-within s.machine.rest.threads t live in
    let many = ready.running.runs.many in
    let own = get-some ready.threads t (omega (arith, within, many)) in
    let has = ready.own t own.0 own.1 in
    let same : has.now ≡ fs = some-one has.now fs (sym has.there ∙ there) in
    (e, knows.1, subst (λ (gs : ThreadFrames). AreOf e.setting.program gs.frames) same has.of)

-- ---- an event that is next

module _ (o : Opening) (first : ℕ) (set : SetFacts) (x : Setting Native Ref (NativeState Ref) Item) (s : Shared) (all : List ThreadFrames)
    (t : ℕ) (begun : Option Stretch) (before now : ThreadFrames) (next : IsNext o first set x s all t begun before now) where
  module _ (b : Stretch) (is : begun ≡ Some b) where
    of-begun : IsNext o first set x s all t (Some b) before now
    of-begun = subst (λ (how : Option Stretch). IsNext o first set x s all t how before now) is next

    pub stretched-so : HasStretched o first set x s all t b before now
    stretched-so = record {
      ready = next.ready;
      there = next.there;
      unasked = of-begun.asked;
      live = next.live;
      stretches = of-begun.comes.0;
      of = of-begun.comes.1;
    }

  module _ (is : begun ≡ None) where
    of-asked : IsNext o first set x s all t None before now
    of-asked = subst (λ (how : Option Stretch). IsNext o first set x s all t how before now) is next

    pub asked-there : slice_get all t ≡ Some now
    asked-there = next.there ∙ ap (λ (fs : ThreadFrames). Some fs) (sym of-asked.comes)

    pub asked-some : IsSome (asked_by s.notes t)
    asked-some = of-asked.asked

-- ---- an event

module _ (set : SetFacts) (x : Setting Native Ref (NativeState Ref) Item) (entry : Option Began) (t : ℕ) (begun : Option Stretch)
    (old : Shared) (begins : List (Option Ref)) (noted : List ThreadFrames) (seen : Option (List Recorded)) (taken : Option (List ℕ))
    (takes : ℕ → ℕ → Option ℕ) (faults : ℕ) (before come : ThreadFrames)
    (knows : Knows entry (held old (all_frames begins noted) seen taken faults None) takes) (of : IsOf set x entry)
    (there : slice_get noted t ≡ Some before) (has_begun : slice_get begins t ≡ Some None)
    (live : is_live old.machine.rest.threads t ≡ true) (asked : IsAskedAs begun (asked_by old.notes t)) (comes : ComesSo x begun before come) where
  is-next : (o : Opening) (first : ℕ) → IsReady o first set x old (all_frames begins noted)
      → IsNext o first set x old (all_frames begins noted) t begun before come
  is-next o first ready = record {
    ready = ready;
    there = left-at begins noted t before has_begun there;
    live = live;
    asked = asked;
    comes = comes;
  }

  -- what the event asks for
  pub next-now : (o : Opening) × (first : ℕ) × (all : List ThreadFrames) × (before : ThreadFrames)
      × IsNext o first set x old all t begun before come
  next-now =
      let ready = ready-now set x entry old (all_frames begins noted) seen taken takes faults knows of in
      (ready.0, ready.1, all_frames begins noted, before, is-next ready.0 ready.1 ready.2)

  -- what is known of the sink behind the event
  module _ {S : Type 0} (tells : S → Option (List ℕ)) (from : Option S) (sink last : S) (knew : KnowsSink tells entry from None sink old)
      (went : Stepped) (new : Shared)
      (spares : (o : Opening) (first : ℕ) (all : List ThreadFrames) (before : ThreadFrames)
      → IsNext o first set x old all t begun before come
      → SparesSink tells o.launch (fault_of new went) sink last old.history.acts new.history.acts) where
    pub sink-so : (over : Option RunFault) → over ≡ fault_of new went → KnowsSink tells entry from over last new
    sink-so over is = sink-over tells entry from (fault_of new went) over last new (sym is)
        (sink-on tells entry from set x old (all_frames begins noted) seen taken takes faults knows of sink last knew (fault_of new went) new
        (λ o first ready. spares o first (all_frames begins noted) before (is-next o first ready)))

  module _ (went : Stepped) (new : Shared) (now : ThreadFrames) (begins' : List (Option Ref)) (noted' : List ThreadFrames) (count : ℕ)
      (goes : (o : Opening) (first : ℕ) (all : List ThreadFrames) (before : ThreadFrames)
      → IsNext o first set x old all t begun before come
      → StepsBehind (pauses_of begun) o first set x t went old new (after_event went old new (slice_set all t now)))
      (counted : count ≡ length old.machine.rest.threads) (begins_is : begins' ≡ begins_after went count new begins)
      (noted_is : noted' ≡ slice_set noted t now) where
    all-after : all_frames begins' noted' ≡ after_event went old new (slice_set (all_frames begins noted) t now)
    all-after =
        ap (λ (bs : List (Option Ref)). all_frames bs noted') (begins_is ∙ ap (λ (n : ℕ). begins_after went n new begins) counted)
        ∙ ap (all_frames (begins_after went (length old.machine.rest.threads) new begins)) noted_is
        ∙ event-so went old new begins (slice_set noted t now)
        ∙ ap (after_event went old new) (leaves-at begins noted t now has_begun)

    pub goes-so : (o : Opening) (first : ℕ) → IsReady o first set x old (all_frames begins noted)
        → ComesTo o first set x t went new (all_frames begins' noted')
    goes-so o first ready = subst (ComesTo o first set x t went new) (sym all-after)
        (comes-behind set x (pauses_of begun) o first t went old new (after_event went old new (slice_set (all_frames begins noted) t now))
        (goes o first (all_frames begins noted) before (is-next o first ready)))

    -- who has begun has these frames
    pub has-left : slice_get noted' t ≡ Some now → slice_get (all_frames begins' noted') t ≡ Some now
    has-left at =
        let within = live-within old.machine.rest.threads t live in
        let other : t ≢ count = λ same. absurd (omega (arith, within, same, counted)) in
        left-at begins' noted' t now
        (ap (λ (bs : List (Option Ref)). slice_get bs t) begins_is ∙ begun-still went count new begins t other ∙ has_begun) at

    module _ (seen' : Option (List Recorded)) (taken' : Option (List ℕ)) (takes' : ℕ → ℕ → Option ℕ) (faults' : ℕ)
        (told : HasTold old.history.acts new.history.acts seen seen' taken taken')
        (shares : (o : Opening) (first : ℕ) (all : List ThreadFrames) (before : ThreadFrames)
        → IsNext o first set x old all t begun before come
        → PrintsShares o.launch takes takes' old.history.acts new.history.acts)
        (cause : IsCaused (fault_of new went) faults faults' (memory_of old.machine).faults (memory_of new.machine).faults) where
      pub knows-on : (over : Option RunFault) → over ≡ fault_of new went
          → Knows entry (held new (all_frames begins' noted') seen' taken' faults' over) takes'
      knows-on over is = steps-so set x entry t went old new (all_frames begins noted) (all_frames begins' noted') seen seen' taken taken'
          takes takes' faults faults' knows of goes-so told
          (λ o first ready. shares o first (all_frames begins noted) before (is-next o first ready)) cause over is

-- ---- away from the run

-- frames of the run's program are of the program of the setting that the run has
pub of-setting : (set : SetFacts) (x : Setting Native Ref (NativeState Ref) Item) (entry : Option Began) (fs : ThreadFrames)
    → IsOf set x entry → IsOfRun entry fs → AreOf x.program fs.frames
of-setting set x entry fs of run =
    subst (λ (y : Setting Native Ref (NativeState Ref) Item). AreOf y.program fs.frames) (sym (of-entry set x entry run.0 run.1 of).1) run.2

one-more : (x : Setting Native Ref (NativeState Ref) Item) (count : ℕ) (before mid now : ThreadFrames) → PauseOn x count before mid
    → Pauses x mid now → PauseOn x (suc count) before now
one-more x zero before mid now on pauses = (now, subst (λ (fs : ThreadFrames). Pauses x fs now) on pauses, refl)
one-more x (suc count) before mid now on pauses = (on.0, on.1, one-more x count on.0 mid now on.2 pauses)

-- one turn more pauses
pub pauses-more : (x : Setting Native Ref (NativeState Ref) Item) (count : ℕ) (before mid now : ThreadFrames) → PauseOn x count before mid
    → Pauses x mid now → PauseOn x (count + 1) before now
pauses-more x count before mid now on pauses =
    let same : suc count ≡ count + 1 = omega arith in
    subst (λ (n : ℕ). PauseOn x n before now) same (one-more x count before mid now on pauses)
