-- What an event does to a run: a turn begins and asks, and the event leaves the run ready, or ended.
use Rattle.std.proofs.Common.{◌≡◌, ◌≢◌, ◌⊎◌, ℕ, ◌+◌, ◌<◌, ◌≤◌, Bool, true, false, not, List, [], ◌∷◌, length}
use Rattle.std.proofs.Common.{Option, Some, None, refl, ap, sym, subst, ◌∙◌, arith, inl, inr}
use Rattle.std.specs.Prelude.{IsSome, slice_get, slice_index, slice_set}
use Rattle.std.proofs.lemmas.Bool.{cases_lt}
use Rattle.std.proofs.lemmas.Bool.Decides.{eqb_tells}
use Rattle.std.proofs.lemmas.List.{get_or-set_other, length-append, length-set}
use Rattle.std.proofs.lemmas.Option.{slice_get_within}
use Rattle.ap_base.specs.declared.reference.Ref.{Ref}
use Rattle.ap_base.specs.declared.reference.Item.{Item}
use Rattle.run_types.specs.declared.fault.RunFault.{RunFault}
use Rattle.natives.specs.declared.methods.Native.{Native}
use Rattle.natives.specs.declared.requests.Request.{Request}
use Rattle.natives.specs.declared.requests.Request.TheVariants as ask
use Rattle.natives.specs.declared.requests.Reply.{Reply}
use Rattle.natives.specs.declared.states.NativeState.{NativeState}
use Rattle.run_history.specs.declared.act.Op.{Op}
use Rattle.run_history.specs.declared.act.Op.TheVariants as op
use Rattle.run_history.specs.Recorded.{History}
use Rattle.plain_model.specs.Facts.{SetFacts}
use Rattle.frames.specs.Settings.{Setting}
use Rattle.frames.specs.Turns.{answer, begun_thread, turn}
use Rattle.frame_steps.specs.Sized.{AreOf}
use Rattle.private_steps.specs.Waits.{Waits, WaitsAfter}
use Rattle.shared_objects.specs.declared.threads.ThreadState.{ThreadState}
use Rattle.run_forms.specs.Laws.{answered_threads}
use Rattle.run_forms.specs.Views.{ThreadFrames}
use Rattle.run_forms.specs.Standing.{setting_of}
use Rattle.twin_forms.specs.Table.{Entry}
use Rattle.machine.specs.Passed.{Doing}
use Rattle.machine.specs.Passed.{Nothing, Converting, Writing, Fencing}
use Rattle.machine.specs.Passed.{Opening, Machine, doing_of, shown_in}
use Rattle.machine.specs.Passed.{IsListed}
use Rattle.machine.specs.Passed.{Asks, Begins, IsReady as OwesNoFence, LagsByItsStore, Shared, all_acted, asked_by, given}
use Rattle.machine.specs.Passed.{started_as, taken}
use Rattle.machine.specs.declared.events.Event.{Event}
use Rattle.machine.specs.declared.events.Event.TheVariants.{Did, Over}
use Rattle.machine.specs.declared.events.Halt.{Halt}
use Rattle.machine.specs.declared.events.Halt.TheVariants.{Met, Stuck}
use Rattle.machine.specs.Halts.{fault_of_halt}
use Rattle.machine.specs.Running.{HadNoFault, IsDue, IsRunning, asked_class}
use Rattle.machine.specs.Events.{IsAnswerTo, IsOver}
use Rattle.machine.specs.Remembering.{Answers, GoesOnAsking, LeadsTo, Remembers}
use Rattle.machine.proofs.Passed.{frames-at, ready-own}
use Rattle.durable_run.specs.Events.{HasAsked, with_begun}
use Rattle.durable_run.specs.Turning.{AsksListed, EndsAt, HasFrames, HasRun, HaveTurned, IsReady, is_live, lives}
use Rattle.durable_run.proofs.Noting.{forgets, forgets-taken, runs-noted}
use Rattle.durable_run.proofs.Places.{get-before, get-behind, get-other, get-same, get-some, some-one}
use Rattle.durable_run.proofs.Throwing.{thrown-is_plain}

-- ---- threads that live

no-true : {P : Type 0} → false ≡ true → P
no-true e = absurd (let no : false ≡ true = e in cc)

not-true : (b : Bool) → not b ≡ true → b ≡ false
not-true true h = no-true h
not-true false h = refl

live-at : (state : Option ThreadState) → lives state ≡ true
    → (s : ThreadState) × (state ≡ Some s) × (s.ended ≡ false)
live-at None e = no-true e
live-at (Some s) e = (s, refl, not-true s.ended e)

pub live-state : (states : List ThreadState) (t : ℕ) → is_live states t ≡ true
    → (s : ThreadState) × (slice_get states t ≡ Some s) × (s.ended ≡ false)
live-state states t e = live-at (slice_get states t) e

-- ---- requests

-- what was asked so waits for its reply
pub waits-so : (request : Request Ref Item) (r : Reply Ref Item) (fs : ThreadFrames)
    → IsAnswerTo (Did r) request
    → WaitsAfter request fs → Waits fs
waits-so (ask.Broken f) r fs is waits = absurd (is tt)
waits-so request r fs is waits = waits

-- A thread whose turn asks no store owes no fence.
pub owes-none : (o : Opening) (d : Doing) (fs : ThreadFrames) (request : Request Ref Item)
    → (turn (setting_of o.launch) fs).asks ≡ Some request → (IsSome (given request) → ⊥) → LagsByItsStore o.launch d fs
    → OwesNoFence d
owes-none o Nothing fs request asks none lags = inl refl
owes-none o Converting fs request asks none lags = inr refl
owes-none o (Writing line) fs request asks none lags =
    absurd (none (subst (λ (q : Request Ref Item). IsSome (given q)) (some-one lags.0 request (sym lags.1 ∙ asks)) lags.2))
owes-none o Fencing fs request asks none lags =
    absurd (none (subst (λ (q : Request Ref Item). IsSome (given q)) (some-one lags.0 request (sym lags.1 ∙ asks)) lags.2))

-- ---- what a thread asks to make is listed

module _ (o : Opening) (first : ℕ) (s : Shared) (es : List Entry) (threads : List ThreadFrames)
    (running : IsRunning o first s es threads) (arrays : AsksListed o s.machine) (t : ℕ) (fs : ThreadFrames) where
  pub owes-no_fence : (request : Request Ref Item) → Asks o s.machine threads t fs request
      → (IsSome (given request) → ⊥) → OwesNoFence (doing_of s.machine t)
  owes-no_fence request asks none = owes-none o (doing_of s.machine t) fs request asks.asks none
      (running.runs.all.each t fs asks.frames).lags

  pub made : (request : Request Ref Item) → Asks o s.machine threads t fs request → (class : ℕ)
      → asked_class request ≡ Some class → IsListed o s.machine class
  made (ask.NewArray from shape count) asks class e =
      let same : shape ≡ class = cc in
      let ready = owes-no_fence (ask.NewArray from shape count) asks (λ some. cc) in
      subst (IsListed o s.machine) same (arrays s.machine.acts (shown_in s.machine) s.machine.rest
      (all_acted o.launch s.machine.doing threads) t fs from shape count running.runs.plain.stands
      (record {
        state = asks.state;
        thread = asks.thread;
        lives = asks.lives;
        frames = frames-at o.launch s.machine.doing threads t fs asks.frames
            ∙ ap (λ (gs : ThreadFrames). Some gs) (ready-own o.launch (doing_of s.machine t) fs ready);
        asks = asks.asks;
      }))
  made (ask.Raise from thrown) asks class e =
      let same : thrown ≡ class = cc in
      let plain = thrown-is_plain o.launch running.runs.keeps.world.launched fs from thrown asks.asks in
      subst (IsListed o s.machine) same (running.runs.listed thrown plain.0 plain.1)
  made q asks class e = absurd (let no : ◌≡◌ {A = Option ℕ} None (Some class) = e in cc)

-- ---- a turn asks

module _ (o : Opening) (first : ℕ) (set : SetFacts) (x : Setting Native Ref (NativeState Ref) Item) (s : Shared)
    (frames : List ThreadFrames) (t : ℕ) where
  -- thread t has frames where it lives
  pub live-frames : (ready : IsReady o first set x s frames) → is_live s.machine.rest.threads t ≡ true
      → (fs : ThreadFrames) × (slice_get ready.threads t ≡ Some fs)
  live-frames ready live =
      let state = live-state s.machine.rest.threads t live in
      let within = slice_get_within s.machine.rest.threads t state.0 state.1 in
      let many = ready.running.runs.many in get-some ready.threads t (omega (arith, within, many))

  pub asks-so : (ready : IsReady o first set x s frames) (fs : ThreadFrames) (request : Request Ref Item)
      → slice_get ready.threads t ≡ Some fs → is_live s.machine.rest.threads t ≡ true
      → Some request ≡ (turn x fs).asks → Asks o s.machine ready.threads t fs request
  asks-so ready fs request there live asks = let state = live-state s.machine.rest.threads t live in record {
    state = state.0;
    thread = state.1;
    lives = state.2;
    frames = there;
    asks = ap (λ (y : Setting Native Ref (NativeState Ref) Item). (turn y fs).asks) (sym ready.setting) ∙ sym asks;
  }

  pub due-so : (ready : IsReady o first set x s frames) (fs : ThreadFrames) (request : Request Ref Item)
      → Asks o s.machine ready.threads t fs request
      → IsDue o first set s ready.table ready.threads t fs request
  due-so ready fs request asks = record {
    running = ready.running.runs;
    asks = asks;
    thread =
        (let within = slice_get_within ready.threads t fs asks.frames in
        let few = ready.running.runs.few in omega (arith, within, few));
    made = made o first s ready.table ready.threads ready.running ready.arrays t fs request asks;
    facts = ready.facts;
  }

  -- the frames of the others, once thread t's are these
  pub others-so : (ready : IsReady o first set x s frames) (now : ThreadFrames) (u : ℕ) (fs : ThreadFrames) → u ≢ t
      → slice_get ready.threads u ≡ Some fs → HasFrames x (asked_by s.notes u) (slice_set frames t now) u fs
  others-so ready now u fs other there = let has = ready.own u fs there in record {
    now = has.now;
    there = get-other frames t u now other ∙ has.there;
    of = has.of;
    turned = has.turned;
  }

  module _ (before : ThreadFrames) (ready : IsReady o first set x s frames) (there : slice_get frames t ≡ Some before)
      (unasked : asked_by s.notes t ≡ None) (live : is_live s.machine.rest.threads t ≡ true) where
    -- its turn begins with the frames that it has
    pub begins-there : slice_get ready.threads t ≡ Some before
    begins-there =
        let fs = live-frames ready live in
        let has = ready.own t fs.0 fs.1 in
        let now : has.now ≡ fs.0 = subst (λ asked. HaveTurned x asked fs.0 has.now) unasked has.turned in
        fs.1 ∙ ap (λ (gs : ThreadFrames). Some gs) (sym now ∙ some-one has.now before (sym has.there ∙ there))

    abbrev pub asks-next : (after : ThreadFrames) (request : Request Ref Item) → after ≡ (turn x before).frames
        → Some request ≡ (turn x before).asks → WaitsAfter request after → AreOf x.program after.frames
        → HasAsked o first set x s (slice_set frames t after) t request
    asks-next after request is asks waits of =
        let its = asks-so ready before request begins-there live asks in record {
          setting = ready.setting;
          table = ready.table;
          threads = ready.threads;
          before = before;
          next = record {
            due = due-so ready before request its;
            asked = forgets o s ready.table ready.threads t ready.running.asked;
          };
          own = record {
            now = after;
            there = get-same frames t after (slice_get_within frames t before there);
            of = of;
            turned = (is, waits);
          };
          others = others-so ready after;
          many = length-set frames t after ∙ ready.many;
          arrays = ready.arrays;
        }

  -- ---- a request goes on

  pub goes-still : (ready : IsReady o first set x s frames) (request : Request Ref Item)
      → asked_by s.notes t ≡ Some request
      → HasAsked o first set x (record s { notes = taken s.notes t }) frames t request
  goes-still ready request asked =
      let its = ready.running.asked.asks t request asked in
      let has = ready.own t its.0 its.1.frames in
      let due = due-so ready its.0 request its.1 in record {
        setting = ready.setting;
        table = ready.table;
        threads = ready.threads;
        before = its.0;
        next = record {
          due = record {
            running = runs-noted o first s (taken s.notes t) ready.table ready.threads due.running;
            asks = due.asks;
            thread = due.thread;
            made = due.made;
            facts = due.facts;
          };
          asked = forgets-taken o s ready.table ready.threads t ready.running.asked;
        };
        own = record {
          now = has.now;
          there = has.there;
          of = has.of;
          turned = subst (λ q. HaveTurned x q its.0 has.now) asked has.turned;
        };
        others = λ u fs other there. let others = ready.own u fs there in record {
          now = others.now;
          there = others.there;
          of = others.of;
          turned = subst (λ q. HaveTurned x q fs others.now) (sym (asked-still u other)) others.turned;
        };
        many = ready.many;
        arrays = ready.arrays;
      }
    where
      asked-still : (u : ℕ) → u ≢ t → asked_by (taken s.notes t) u ≡ asked_by s.notes u
      asked-still u other = get_or-set_other s.notes.asks t u None None other

-- ---- an event is done

-- an act that starts no thread begins none
begins-none : (o : Opening) (m : Machine) (operation : Op)
    → ((n child : ℕ) → operation ≡ op.Start n child → ⊥) → Begins o m operation []
begins-none o m (op.Start n child) none = absurd (none n child refl)
begins-none o m operation none = refl

-- what an act does with threads: it starts one, or none
starts-one : (operation : Op)
    → ((n : ℕ) × (child : ℕ) × (operation ≡ op.Start n child)) ⊎ ((n child : ℕ) → operation ≡ op.Start n child → ⊥)
starts-one (op.Start n child) = inl (n, child, refl)
starts-one operation = inr (λ n child e. cc)

module _ (o : Opening) (first : ℕ) (set : SetFacts) (x : Setting Native Ref (NativeState Ref) Item) (s new : Shared)
    (frames : List ThreadFrames) (t : ℕ) (request : Request Ref Item)
    (h : HasAsked o first set x s frames t request)
    (numbers : new.machine.spaces.numbers ≡ s.machine.spaces.numbers) where
  listed-still : AsksListed o new.machine
  listed-still = λ acts shown rest threads u gs from shape count stands asks.
      subst (λ (ns : List ℕ). slice_index ns shape < length o.directory.shapes) (sym numbers)
      (h.arrays acts shown rest threads u gs from shape count stands asks)

  own-there : slice_get h.threads t ≡ Some h.before
  own-there = h.next.due.asks.frames

  -- ---- it isn't answered

  module _ (went : Event) (remembers : Remembers went t request s new) (own : asked_by new.notes t ≡ Some request)
      (asking : GoesOnAsking o first s new h.threads) where
    has-still : (u : ℕ) (fs : ThreadFrames) → slice_get h.threads u ≡ Some fs
        → HasFrames x (asked_by new.notes u) frames u fs
    has-still u fs there = elim (eqb_tells u t) [
      | inl same ↦
          (let is : fs ≡ h.before = some-one fs h.before
          (sym there ∙ ap (slice_get h.threads) same.1 ∙ own-there) in
          subst (λ gs. HasFrames x (asked_by new.notes u) frames u gs) (sym is)
          (subst (λ v. HasFrames x (asked_by new.notes v) frames v h.before) (sym same.1)
          (subst (λ asked. HasFrames x asked frames t h.before) (sym own) h.own)))
      | inr other ↦ subst (λ asked. HasFrames x asked frames u fs) (sym (remembers.asked u other.1))
          (h.others u fs other.1 there)
    ]

    pub asks-on : IsReady o first set x new frames
    asks-on = record {
      facts = h.next.due.facts;
      setting = h.setting;
      table = asking.after;
      threads = h.threads;
      running = asking.running;
      own = has-still;
      many = h.many;
      arrays = listed-still;
    }

  -- ---- it is answered

  module _ (r : Reply Ref Item) (remembers : Remembers (Did r) t request s new)
      (answers : Answers o first r s new h.threads t h.before request)
      (now : ThreadFrames) (is : now ≡ answer x h.own.now r) (of : AreOf x.program now.frames) where
    abbrev answered : ThreadFrames
    answered = answer (setting_of o.launch) (turn (setting_of o.launch) h.before).frames r

    now-is : now ≡ answered
    now-is = is ∙ ap (λ (gs : ThreadFrames). answer x gs r) h.own.turned.0
        ∙ ap (λ (y : Setting Native Ref (NativeState Ref) Item). answer y (turn y h.before).frames r) h.setting

    abbrev after : List ThreadFrames
    after = slice_set frames t now

    inside : t < length frames
    inside = slice_get_within frames t h.own.now h.own.there

    below : t < length h.threads
    below = slice_get_within h.threads t h.before own-there

    -- what stands among the threads' frames, where further ones begin
    has-answered : (begun : List ThreadFrames) (u : ℕ) (fs : ThreadFrames) → u < length h.threads
        → slice_get (answered_threads o.launch h.threads t h.before r begun) u ≡ Some fs
        → HasFrames x (asked_by new.notes u) after u fs
    has-answered begun u fs within there = elim (eqb_tells u t) [
      | inl same ↦ own-case same.1
      | inr other ↦ other-case other.1
    ]
      where
        here : slice_get (slice_set h.threads t answered) u ≡ Some fs
        here = sym (get-before (slice_set h.threads t answered) begun u
            (let long = length-set h.threads t answered in omega (arith, long, within))) ∙ there

        own-case : u ≡ t → HasFrames x (asked_by new.notes u) after u fs
        own-case same =
            let fs-is : answered ≡ fs = some-one answered fs
            (sym (get-same h.threads t answered below) ∙ ap (slice_get (slice_set h.threads t answered)) (sym same) ∙ here) in
            subst (λ v. HasFrames x (asked_by new.notes v) after v fs) (sym same) (record {
              now = now;
              there = get-same frames t now inside;
              of = of;
              turned = subst (λ asked. HaveTurned x asked fs now) (sym remembers.own.0) (now-is ∙ fs-is);
            })

        other-case : u ≢ t → HasFrames x (asked_by new.notes u) after u fs
        other-case other =
            let has = h.others u fs other (sym (get-other h.threads t u answered other) ∙ here) in record {
              now = has.now;
              there = get-other frames t u now other ∙ has.there;
              of = has.of;
              turned = subst (λ asked. HaveTurned x asked fs has.now) (sym (remembers.asked u other)) has.turned;
            }

    abbrev before_count : ℕ
    before_count = length s.machine.rest.threads

    threads-many : length h.threads ≡ before_count
    threads-many = h.next.due.running.many

    pub answered-many : (begun : List ThreadFrames) → Begins o new.machine answers.act.act.op begun
        → length new.machine.rest.threads ≡ before_count + length begun
    answered-many begun begins =
        let many = (answers.running begun begins).runs.many in
        let all = length-append (slice_set h.threads t answered) begun in
        let long = length-set h.threads t answered in
        let old = threads-many in omega (arith, many, all, long, old)

    ready-with : (begun : List ThreadFrames) (begins : Begins o new.machine answers.act.act.op begun)
        (now_frames : List ThreadFrames) → length now_frames ≡ 64
        → ((u : ℕ) (fs : ThreadFrames) → slice_get (answered_threads o.launch h.threads t h.before r begun) u ≡ Some fs
        → HasFrames x (asked_by new.notes u) now_frames u fs) → IsReady o first set x new now_frames
    ready-with begun begins now_frames many own = record {
      facts = h.next.due.facts;
      setting = h.setting;
      table = answers.after;
      threads = answered_threads o.launch h.threads t h.before r begun;
      running = answers.running begun begins;
      own = own;
      many = many;
      arrays = listed-still;
    }

    after-many : length after ≡ 64
    after-many = length-set frames t now ∙ h.many

    -- nothing is noted of a thread that hasn't begun
    unasked : (u : ℕ) → u ≢ t → length h.threads ≤ u → asked_by new.notes u ≡ None
    unasked u other past = remembers.asked u other ∙ none-asked (asked_by s.notes u) refl
      where
        none-asked : (at : Option (Request Ref Item)) → asked_by s.notes u ≡ at → at ≡ None
        none-asked None e = refl
        none-asked (Some q) e =
            let its = h.next.asked.asks u q (get_or-set_other s.notes.asks t u None None other ∙ e) in
            let within = slice_get_within h.threads u its.0 its.1.frames in absurd (omega (arith, within, past))

    module _ (later : List ThreadFrames)
        (begun : before_count < length new.machine.rest.threads
        → later ≡ with_begun after before_count (started_as new.notes before_count))
        (none : length new.machine.rest.threads ≤ before_count → later ≡ after) where
      -- no thread was started
      none-case : ((n child : ℕ) → answers.act.act.op ≡ op.Start n child → ⊥) → IsReady o first set x new later
      none-case isnt =
          let begins = begins-none o new.machine answers.act.act.op isnt in
          let many = answered-many [] begins in
          subst (IsReady o first set x new) (sym (none (omega (arith, many)))) (ready-with [] begins after after-many
          (λ u fs there. has-answered [] u fs
          (let within = slice_get_within (answered_threads o.launch h.threads t h.before r []) u fs there in
          let all = length-append (slice_set h.threads t answered) [] in
          let long = length-set h.threads t answered in omega (arith, within, all, long)) there))

      -- one was, which begins with the reference that is noted of it
      module _ (n child : ℕ) (e : answers.act.act.op ≡ op.Start n child) where
        child-is : child ≡ before_count
        child-is = (answers.started n child e).next

        abbrev thread : Ref
        thread = (answers.started n child e).thread

        abbrev first_frames : ThreadFrames
        first_frames = begun_thread thread

        begins : Begins o new.machine answers.act.act.op (first_frames ∷ [])
        begins = (answers.started n child e).begins

        one-more : length new.machine.rest.threads ≡ before_count + 1
        one-more = answered-many (first_frames ∷ []) begins

        later-is : later ≡ slice_set after before_count first_frames
        later-is = begun (let more = one-more in omega (arith, more))
            ∙ ap (with_begun after before_count)
            (ap (started_as new.notes) (sym child-is) ∙ (answers.started n child e).noted)

        room : before_count < length after
        room =
            let few = (answers.running (first_frames ∷ []) begins).runs.few in
            let many = (answers.running (first_frames ∷ []) begins).runs.many in
            let more = one-more in
            let long = after-many in omega (arith, few, many, more, long)

        has-begun : (u : ℕ) (fs : ThreadFrames)
            → slice_get (answered_threads o.launch h.threads t h.before r (first_frames ∷ [])) u ≡ Some fs
            → HasFrames x (asked_by new.notes u) (slice_set after before_count first_frames) u fs
        has-begun u fs there = elim (cases_lt u (length h.threads)) [
          | inl within ↦
              (let has = has-answered (first_frames ∷ []) u fs within there in record {
                now = has.now;
                there = get-other after before_count u first_frames
                    (λ same. let old = threads-many in absurd (omega (arith, within, same, old))) ∙ has.there;
                of = has.of;
                turned = has.turned;
              })
          | inr past ↦
              (let long = length-set h.threads t answered in
              let at = get-behind (slice_set h.threads t answered) first_frames u fs there (omega (arith, long, past)) in
              let old = threads-many in
              let is : u ≡ before_count = at.0 ∙ long ∙ old in
              subst (λ v. HasFrames x (asked_by new.notes v) (slice_set after before_count first_frames) v fs) (sym is)
              (record {
                now = first_frames;
                there = get-same after before_count first_frames room;
                of = tt;
                turned = subst (λ asked. HaveTurned x asked fs first_frames)
                    (sym (unasked before_count (λ same. let inside = below in absurd (omega (arith, same, inside, old)))
                    (omega (arith, old)))) (sym at.1);
              }))
        ]

        one-case : IsReady o first set x new later
        one-case = subst (IsReady o first set x new) (sym later-is) (ready-with (first_frames ∷ []) begins
            (slice_set after before_count first_frames) (length-set after before_count first_frames ∙ after-many)
            has-begun)

      pub acts-again : IsReady o first set x new later
      acts-again = elim (starts-one answers.act.act.op) [
        | inl one ↦ one-case one.0 one.1 one.2
        | inr isnt ↦ none-case isnt
      ]

-- ---- the run is over

module _ (o : Opening) (first : ℕ) (set : SetFacts) (x : Setting Native Ref (NativeState Ref) Item) (s new : Shared)
    (frames : List ThreadFrames) (t : ℕ) (request : Request Ref Item)
    (h : HasAsked o first set x s frames t request) where
  over-so : (f : RunFault) → IsOver o first f s new h.threads t → EndsAt o first t f new
  over-so f over = (
    record {
      run = over.plain.stands.run;
      unfaulted = subst (HadNoFault o.launch) (sym over.acts) h.next.due.running.unfaulted;
      history = ap (λ (y : History). y.acts) over.history ∙ h.next.due.running.acts ∙ sym over.acts;
      table = over.after;
      keeps = over.keeps;
    },
    over.ends,
  )

  pub ends-so : (halt : Halt) → LeadsTo o first (Over halt) s new h.threads t h.before request
      → EndsAt o first t (fault_of_halt new halt) new
  ends-so (Met f) leads = over-so (fault_of_halt new (Met f)) leads
  ends-so Stuck leads = over-so (fault_of_halt new Stuck) leads.over

pub has-run : (o : Opening) (first : ℕ) (s : Shared) (es : List Entry) (threads : List ThreadFrames)
    → IsRunning o first s es threads → HasRun o s
has-run o first s es threads running = record {
  run = running.runs.plain.stands.run;
  unfaulted = running.runs.unfaulted;
  history = running.runs.acts;
  table = es;
  keeps = running.runs.keeps;
}
