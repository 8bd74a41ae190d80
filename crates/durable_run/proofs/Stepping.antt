-- What an event comes to for its run, as the thread's request was noted before.
use Rattle.std.proofs.Common.{◌≡◌, ◌↔◌, ℕ, ◌<◌, Bool, true, false, List, length, Option, Some, None, refl, sym, ◌∙◌, ap, subst, get_or}
use Rattle.std.specs.Prelude.{IsSome, IsTrue, slice_get, slice_index_or, slice_set}
use Rattle.std.proofs.lemmas.List.{get_or-set_other, set-set}
use Rattle.std.proofs.lemmas.Option.{get_or_from_slice_get, slice_get_within}
use Rattle.ap_base.specs.declared.reference.Ref.{Ref}
use Rattle.ap_base.specs.declared.reference.Item.{Item}
use Rattle.run_types.specs.declared.wait.On.{On}
use Rattle.natives.specs.declared.methods.Native.{Native}
use Rattle.natives.specs.declared.requests.Request.{Request}
use Rattle.natives.specs.declared.requests.Reply.{Reply}
use Rattle.natives.specs.declared.states.NativeState.{NativeState}
use Rattle.plain_model.specs.Facts.{SetFacts}
use Rattle.frames.specs.Settings.{Setting}
use Rattle.frame_steps.specs.Sized.{AreOf}
use Rattle.private_steps.specs.declared.coming.Come.{Come}
use Rattle.private_steps.specs.Ahead.{HasCome}
use Rattle.run_forms.specs.Views.{ThreadFrames}
use Rattle.machine.specs.Passed.{Opening}
use Rattle.twin_forms.specs.Table.{Entry}
use Rattle.machine.specs.Passed.{Shared, ThreadNotes, asked_by, taken, waits_on}
use Rattle.machine.specs.declared.events.Event.TheVariants as event
use Rattle.machine.specs.declared.events.Halt.{Halt}
use Rattle.machine.specs.declared.events.Halt.TheVariants.{Met, Stuck}
use Rattle.machine.specs.Events.{KeepsBound}
use Rattle.machine.specs.Remembering.{GoesOnWaiting, Remembers, RemembersOwn as EventRemembersOwn}
use Rattle.machine.specs.Running.{RemembersAsked}
use Rattle.durable_run.specs.Events.{HasBegun, LeavesAlone, RemembersAfter, RemembersOwn, StepsTo, event_of}
use Rattle.durable_run.specs.Turning.{IsReady, asks_next, is_live}
use Rattle.durable_run.specs.declared.steps.Stepped.{Stepped}
use Rattle.durable_run.specs.declared.steps.Stepped.TheVariants.{Acted, Micro, WouldWait, Over}
use Rattle.durable_run.proofs.Going.{live-frames}
use Rattle.durable_run.proofs.Noting.{none-waits}
use Rattle.durable_run.proofs.Places.{get-same, get-some}

-- what is noted before doesn't count
waits-from : (o : Opening) (first : ℕ) (on : On) (s new : Shared) (notes : ThreadNotes) (t : ℕ) (threads : List ThreadFrames)
    → GoesOnWaiting o first on (record s { notes = notes }) new threads t → GoesOnWaiting o first on s new threads t
waits-from o first on s new notes t threads w = record {
  asks = record { after = w.asks.after; running = w.asks.running; asks = w.asks.asks };
  table = w.table;
  agrees = w.agrees;
  holds = w.holds;
  unstuck = w.unstuck;
  rows = w.rows;
}

pub steps-from : (o : Opening) (first : ℕ) (set : SetFacts) (x : Setting Native Ref (NativeState Ref) Item) (t : ℕ)
    (went : Stepped) (s new : Shared) (notes : ThreadNotes) (frames : List ThreadFrames)
    → StepsTo o first set x t went (record s { notes = notes }) new frames → StepsTo o first set x t went s new frames
steps-from o first set x t Acted s new notes frames goes = goes
steps-from o first set x t Micro s new notes frames goes = goes
steps-from o first set x t (WouldWait on) s new notes frames goes =
    (goes.0, (goes.1.0, waits-from o first on s new notes t goes.1.0 goes.1.1))
steps-from o first set x t (Over halt) s new notes frames goes = goes

pub bound-from : (went : Stepped) (s new : Shared) (notes : ThreadNotes)
    → KeepsBound (event_of went) (record s { notes = notes }) new → KeepsBound (event_of went) s new
bound-from Acted s new notes bound = bound
bound-from Micro s new notes bound = bound
bound-from (WouldWait on) s new notes bound = bound
bound-from (Over halt) s new notes bound = bound

-- ---- what is noted of the threads

-- where nothing is noted anew, of a thread of which nothing is
pub notes-still : (o : Opening) (old new : Shared) (es : List Entry) (threads : List ThreadFrames) (t : ℕ)
    (asks : Option (Request Ref Item)) → RemembersAsked o old es threads → asked_by old.notes t ≡ None
    → new.notes.asks ≡ old.notes.asks → new.notes.waits ≡ old.notes.waits → RemembersAfter t asks Acted old new
notes-still o old new es threads t asks noted unasked same_asks same_waits = record {
  own = (asks-same t ∙ unasked, waits-same t ∙ none-waits o old es threads t noted unasked);
  asked = λ u other. asks-same u;
  waits = λ u other. waits-same u;
}
  where
    asks-same : (u : ℕ) → asked_by new.notes u ≡ asked_by old.notes u
    asks-same u = ap (λ (xs : List (Option (Request Ref Item))). slice_index_or xs u None) same_asks

    waits-same : (u : ℕ) → waits_on new.notes u ≡ waits_on old.notes u
    waits-same u = ap (λ (xs : List (Option On)). slice_index_or xs u None) same_waits

-- as the event tells it
own-over : (t : ℕ) (request : Request Ref Item) (s : Shared) (halt : Halt)
    → EventRemembersOwn (event.Over halt) t request s → RemembersOwn (Over halt) t (Some request) s
own-over t request s Stuck own = own
own-over t request s (Met f) own = tt

pub acted-remembers : (t : ℕ) (request : Request Ref Item) (old new : Shared) (r : Reply Ref Item)
    → Remembers (event.Did r) t request old new → RemembersAfter t (Some request) Acted old new
acted-remembers t request old new r it = record { own = it.own; asked = it.asked; waits = it.waits }

pub micro-remembers : (t : ℕ) (request : Request Ref Item) (old new : Shared)
    → Remembers event.Micro t request old new → RemembersAfter t (Some request) Micro old new
micro-remembers t request old new it = record { own = it.own; asked = it.asked; waits = it.waits }

pub wait-remembers : (t : ℕ) (request : Request Ref Item) (old new : Shared) (on : On)
    → Remembers (event.WouldWait on) t request old new → RemembersAfter t (Some request) (WouldWait on) old new
wait-remembers t request old new on it = record { own = it.own; asked = it.asked; waits = it.waits }

pub over-remembers : (t : ℕ) (request : Request Ref Item) (old new : Shared) (halt : Halt)
    → Remembers (event.Over halt) t request old new → RemembersAfter t (Some request) (Over halt) old new
over-remembers t request old new halt it = record {
  own = own-over t request new halt it.own;
  asked = it.asked;
  waits = it.waits;
}

-- the same once its request was taken
pub remembers-taken : (t : ℕ) (asks : Option (Request Ref Item)) (went : Stepped) (old new : Shared)
    → RemembersAfter t asks went (record old { notes = taken old.notes t }) new → RemembersAfter t asks went old new
remembers-taken t asks went old new it = record {
  own = it.own;
  asked = λ u other. it.asked u other ∙ get_or-set_other old.notes.asks t u None None other;
  waits = it.waits;
}

-- ---- what an event leaves alone

pub alone-taken : (t : ℕ) (asks : Option (Request Ref Item)) (went : Stepped) (s new : Shared) (notes : ThreadNotes)
    (Same : Type 0) → LeavesAlone t asks went (record s { notes = notes }) new Same → LeavesAlone t asks went s new Same
alone-taken t asks went s new notes Same a =
    record { calls = a.calls; either = a.either; unanswered = a.unanswered; silent = a.silent; others = a.others }

-- ---- what is asked next

-- a request that isn't answered is what the thread asks next
pub next-asked : (x : Setting Native Ref (NativeState Ref) Item) (q : Option (Request Ref Item)) (fs : ThreadFrames)
    → IsSome q → asks_next x q fs ≡ q
next-asked x None fs some = absurd (let no = some in cc)
next-asked x (Some request) fs some = refl

-- ---- whether a thread has asked

pub none-asked : {X : Type 0} (b : Bool) (at : Option X) → b ≡ false → (IsTrue b ↔ IsSome at) → at ≡ None
none-asked b None e is = refl
none-asked {X} b (Some x) e is = absurd (let no : false ≡ true = sym e ∙ is.1 refl in cc)

-- ---- frames as the code finds them

-- the element at a thread's place
pub elem-is : (frames : List ThreadFrames) (t i : ℕ) (elem now : ThreadFrames) → i ≡ t → elem ≡ get_or frames i elem
    → slice_get frames t ≡ Some now → elem ≡ now
elem-is frames t i elem now at value there = value ∙ ap (λ (n : ℕ). get_or frames n elem) at
    ∙ get_or_from_slice_get frames t now elem there

-- what the code finds at a thread's place stands there
pub elem-at : (frames : List ThreadFrames) (t i : ℕ) (elem : ThreadFrames) → i ≡ t → elem ≡ get_or frames i elem
    → t < length frames → slice_get frames t ≡ Some elem
elem-at frames t i elem at value below =
    let there = get-some frames t below in
    there.1 ∙ ap (λ (fs : ThreadFrames). Some fs) (sym (elem-is frames t i elem there.0 at value there.1))

pub set-twice : (frames : List ThreadFrames) (t i : ℕ) (one other : ThreadFrames) → i ≡ t
    → slice_set (slice_set frames i one) i other ≡ slice_set frames t other
set-twice frames t i one other at = set-set frames i one other ∙ ap (λ (n : ℕ). slice_set frames n other) at

-- what stands there once it was put there
pub elem-put : (frames : List ThreadFrames) (t i : ℕ) (now elem : ThreadFrames) → i ≡ t → t < length frames
    → elem ≡ get_or (slice_set frames i now) i elem → elem ≡ now
elem-put frames t i now elem at below value = value
    ∙ ap (λ (n : ℕ). get_or (slice_set frames n now) n elem) at
    ∙ get_or_from_slice_get (slice_set frames t now) t now elem (get-same frames t now below)

module _ (o : Opening) (first : ℕ) (set : SetFacts) (x : Setting Native Ref (NativeState Ref) Item) (s : Shared)
    (frames : List ThreadFrames) (t i : ℕ) (elem : ThreadFrames) (ready : IsReady o first set x s frames)
    (live : is_live s.machine.rest.threads t ≡ true) (at : i ≡ t) (value : elem ≡ get_or frames i elem) where
  abbrev fs : ThreadFrames
  fs = (live-frames o first set x s frames t ready live).0

  -- a live thread has frames, of the program
  pub elem-there : slice_get frames t ≡ Some elem
  elem-there =
      let has = ready.own t fs (live-frames o first set x s frames t ready live).1 in
      has.there ∙ ap (λ (gs : ThreadFrames). Some gs) (sym (elem-is frames t i elem has.now at value has.there))

  pub elem-of : AreOf x.program elem.frames
  elem-of =
      let has = ready.own t fs (live-frames o first set x s frames t ready live).1 in
      subst (λ (gs : ThreadFrames). AreOf x.program gs.frames)
      (sym (elem-is frames t i elem has.now at value has.there)) has.of

  pub begun-so : (stop : Come Ref) (now : ThreadFrames) → asked_by s.notes t ≡ None → HasCome x stop elem now
      → AreOf x.program now.frames → HasBegun o first set x s frames t stop elem now
  begun-so stop now unasked come of = record {
    ready = ready;
    there = elem-there;
    unasked = unasked;
    live = live;
    come = come;
    of = of;
  }

  -- the same, as the code finds its frames then
  pub begun-at : (stop : Come Ref) (one now : ThreadFrames) → asked_by s.notes t ≡ None → HasCome x stop elem one
      → AreOf x.program one.frames → now ≡ get_or (slice_set frames i one) i now
      → HasBegun o first set x s frames t stop elem now
  begun-at stop one now unasked come of put =
      subst (λ (gs : ThreadFrames). HasBegun o first set x s frames t stop elem gs)
      (sym (elem-put frames t i one now at (slice_get_within frames t elem elem-there) put))
      (begun-so stop one unasked come of)

pub put-there : (all frames : List ThreadFrames) (t : ℕ) (before now : ThreadFrames) → slice_get all t ≡ Some before
    → frames ≡ slice_set all t now → slice_get frames t ≡ Some now
put-there all frames t before now there is = ap (λ (gs : List ThreadFrames). slice_get gs t) is
    ∙ get-same all t now (slice_get_within all t before there)
