-- What is so within a pass over the threads, and why a pass leaves less to do.
use Rattle.std.proofs.Common.{◌≡◌, ◌⊎◌, ℕ, suc, ◌+◌, ◌<◌, ◌≤◌, Bool, true, false, not, List, [], ◌∷◌, length}
use Rattle.std.proofs.Common.{Option, Some, None, refl, ap, sym, subst, ◌∙◌, arith, inl, inr, if◌then◌else◌}
use Rattle.std.specs.Prelude.{All, slice_get}
use Rattle.std.proofs.lemmas.Bool.{cases_lt}
use Rattle.std.proofs.lemmas.Bool.Decides.{eqb_tells}
use Rattle.std.proofs.lemmas.List.Elements.{All-nil, All-cons}
use Rattle.std.proofs.lemmas.Option.{slice_get_within}
use Rattle.ap_base.specs.declared.reference.Ref.{Ref}
use Rattle.ap_base.specs.declared.reference.Item.{Item}
use Rattle.run_types.specs.declared.wait.On.{On}
use Rattle.run_types.specs.declared.wait.On.TheVariants as on
use Rattle.natives.specs.declared.methods.Native.{Native}
use Rattle.natives.specs.declared.requests.Request.{Request}
use Rattle.natives.specs.declared.states.NativeState.{NativeState}
use Rattle.run_history.specs.Knowing.{pending_of}
use Rattle.run_history.specs.Recorded.{Recorded}
use Rattle.plain_model.specs.Facts.{SetFacts}
use Rattle.plain_model.specs.Requests.{PlainRequest}
use Rattle.plain_model.specs.Runs.{request_after}
use Rattle.frames.specs.Settings.{Setting}
use Rattle.shared_objects.specs.declared.threads.ThreadState.{ThreadState}
use Rattle.run_forms.specs.Standing.{plain_code}
use Rattle.run_forms.specs.Views.{ThreadFrames}
use Rattle.twin_forms.specs.Table.{Entry, IsClaimed}
use Rattle.machine.specs.Passed.{Opening, Machine, known_in, layout_in, scene_of}
use Rattle.machine.specs.Passed.{IsDoing}
use Rattle.machine.specs.Passed.{AllAskStores, ClaimersLive, FullRowsWaitPlainly, HaveWaited, HoldsWait, InRow, IsFull}
use Rattle.machine.specs.Passed.{IsLive, LiveThreadsAsk, MachinesBeginRows, PassesBegin, PassesFill, PassesGoOn, PassesSkip}
use Rattle.machine.specs.Passed.{Plain, PlainWaitsAreNoConversions, Shared, Why, asks_some, measure, none_waited, on_of, plain_waits}
use Rattle.machine.specs.Passed.{requests_in, waits_on, with_wait}
use Rattle.machine.specs.declared.events.Halt.{Halt}
use Rattle.machine.specs.Remembering.{IsStuckNow}
use Rattle.durable_run.specs.Events.{AddsBy, LeavesLess, RemembersAfter, StepsTo, fault_of}
use Rattle.durable_run.specs.Passes.{IsLess}
use Rattle.durable_run.specs.Telling.{IsCaused}
use Rattle.durable_run.specs.Turning.{IsReady, is_live, lives}
use Rattle.durable_run.specs.declared.steps.Stepped.{Stepped}
use Rattle.durable_run.specs.declared.steps.Stepped.TheVariants.{Acted, Micro, WouldWait, Over}
use Rattle.durable_run.proofs.Places.{get-some, no-some, some-one}
use Rattle.durable_run.proofs.Telling.{more-acts}

-- ---- live threads

no-true : {P : Type 0} → false ≡ true → P
no-true e = absurd (let no : false ≡ true = e in cc)

is-live : (m : Machine) (t : ℕ) → IsLive m t → is_live m.rest.threads t ≡ true
is-live m t live = ap lives live.1 ∙ ap not live.2

not-live : (b : Bool) → (b ≡ true → ⊥) → b ≡ false
not-live true never = absurd (never refl)
not-live false never = refl

ended-at : (state : ThreadState) → not state.ended ≡ false → state.ended ≡ true
ended-at state e = not-false state.ended e
  where
    not-false : (b : Bool) → not b ≡ false → b ≡ true
    not-false true h = refl
    not-false false h = absurd (let no : true ≡ false = h in cc)

pub all-ended : (states : List ThreadState) → ((u : ℕ) → u < length states → is_live states u ≡ false)
    → All (λ (state : ThreadState). state.ended ≡ true) states
all-ended [] dead = All-nil (λ (state : ThreadState). state.ended ≡ true)
all-ended (s ∷ states) dead = All-cons (λ (state : ThreadState). state.ended ≡ true) s states
    (ended-at s (dead 0 (omega arith)))
    (all-ended states (λ u below. dead (suc u) (omega (arith, below))))

-- ---- less to do

pub less-then : (old s new : Shared) → IsLess old s → IsLess s new → IsLess old new
less-then old s new (inl a) (inl b) = inl (omega (arith, a, b))
less-then old s new (inl a) (inr b) =
    let same = ap (λ (acts : List Recorded). length acts) b.0 in inl (omega (arith, a, same))
less-then old s new (inr a) (inl b) =
    let same = ap (λ (acts : List Recorded). length acts) a.0 in inl (omega (arith, b, same))
less-then old s new (inr a) (inr b) = inr (b.0 ∙ a.0, (let x = a.1 in let y = b.1 in omega (arith, x, y)))

-- no act was added, and no more is left
less-waiting : (old s new : Shared) → IsLess old s → new.history.acts ≡ s.history.acts
    → measure new.machine ≤ measure s.machine → IsLess old new
less-waiting old s new (inl a) same no_more =
    let e = ap (λ (acts : List Recorded). length acts) same in inl (omega (arith, a, e))
less-waiting old s new (inr a) same no_more = inr (same ∙ a.0, (let x = a.1 in omega (arith, x, no_more)))

less-after : (old s new : Shared) → s.history.acts ≡ old.history.acts → measure s.machine ≤ measure old.machine
    → IsLess s new → IsLess old new
less-after old s new same no_more (inl b) =
    let e = ap (λ (acts : List Recorded). length acts) same in inl (omega (arith, b, e))
less-after old s new same no_more (inr b) = inr (b.0 ∙ same, (let y = b.1 in omega (arith, y, no_more)))

micro-less : (t : ℕ) (s new : Shared) → AddsBy Micro t s.history.acts new.history.acts → LeavesLess Micro s new
    → IsLess s new
micro-less t s new (inl same) less = inr (same, less same)
micro-less t s new (inr one) less = inl (more-acts t s.history.acts new.history.acts one)

-- ---- a pass of waits

-- Since the pass began no act was added and no more is left to do, and each live thread below n has waited, in a row. Where one
-- has, the run isn't stuck.
pub record HaveAllWaited (o : Opening) (old s : Shared) (n : ℕ) (some : Bool) : Type 0 where
  pub acts : s.history.acts ≡ old.history.acts
  pub work : measure s.machine ≤ measure old.machine
  pub es : List Entry
  pub waited : ℕ → Option Why
  pub row : InRow (plain_waits o s.machine) (scene_of s.machine) es waited
  pub all : HaveWaited (asks_some (requests_in o s.machine)) waited n
  pub noted : (u : ℕ) (why : Why) → waited u ≡ Some why → waits_on s.notes u ≡ Some (on_of why)
  pub unstuck : some ≡ true → (table : List Entry) × (IsStuckNow o s table → ⊥)

module _ (o : Opening) (first : ℕ) (set : SetFacts) (x : Setting Native Ref (NativeState Ref) Item) (s : Shared)
    (frames : List ThreadFrames) (ready : IsReady o first set x s frames) where
  abbrev alive : ℕ → Bool
  alive = asks_some (requests_in o s.machine)

  pub waits-begin : MachinesBeginRows → PassesBegin → HaveAllWaited o s s 0 false
  waits-begin rows passes = record {
    acts = refl;
    work = omega arith;
    es = ready.table;
    waited = none_waited;
    row = rows o s.machine ready.table (plain_waits o s.machine) ready.running.runs.keeps ready.running.runs.unwritten;
    all = passes alive none_waited;
    noted = λ u why is. absurd (let no : ◌≡◌ {A = Option Why} None (Some why) = is in cc);
    unstuck = no-true;
  }

  -- ---- who lives asks

  module _ (live_ask : LiveThreadsAsk) where
    asks-alive : (t : ℕ) → alive t ≡ true → IsLive s.machine t
    asks-alive t e = (live_ask o s.machine ready.table ready.threads ready.running.runs.keeps ready.running.runs.plain
        ready.running.runs.many t).0 e

    not-alive : (t : ℕ) → is_live s.machine.rest.threads t ≡ false → alive t ≡ false
    not-alive t dead = not-live (alive t) (λ e.
        let live = is-live s.machine t (asks-alive t e) in
        let no : false ≡ true = sym dead ∙ live in cc)

    alive-below : (t : ℕ) → alive t ≡ true → t < length s.machine.rest.threads
    alive-below t e = let live = asks-alive t e in slice_get_within s.machine.rest.threads t live.0 live.1

    pub waits-skip : PassesSkip → (old : Shared) (n : ℕ) (some : Bool) → is_live s.machine.rest.threads n ≡ false
        → HaveAllWaited o old s n some → HaveAllWaited o old s (n + 1) some
    waits-skip skip old n some dead w = record {
      acts = w.acts;
      work = w.work;
      es = w.es;
      waited = w.waited;
      row = w.row;
      all = skip alive w.waited n w.all (not-alive n dead);
      noted = w.noted;
      unstuck = w.unstuck;
    }

    -- ---- a pass of waits alone is full, and so its last event was the run's

    module _ (fill : PassesFill) (full : FullRowsWaitPlainly) (claimers : ClaimersLive)
        (plain : PlainWaitsAreNoConversions) (old : Shared) (n : ℕ) (w : HaveAllWaited o old s n true)
        (past : length s.machine.rest.threads ≤ n) where
      none-asked : (t : ℕ) → length ready.threads ≤ t → pending_of (known_in o s.machine).asked t ≡ None
      none-asked t past_all = (subst (IsDoing (known_in o s.machine) (layout_in o ready.table) t)
          (ready.running.runs.all.unbegun t past_all).doing (ready.running.runs.keeps.asked.doing t)).0

      all-ask : AllAskStores o s.machine
      all-ask t = elim (cases_lt t (length ready.threads)) [
        | inl below ↦ (let fs = get-some ready.threads t below in (ready.running.runs.all.each t fs.0 fs.1).about)
        | inr past_all ↦ λ p is. no-some (pending_of (known_in o s.machine).asked t) p (none-asked t past_all) is
      ]

      -- whoever has claimed an object by the row's table has one queued, and so has claimed one by the run's table
      claimer-lives : (t m : ℕ) → IsClaimed w.es t m → alive t ≡ true
      claimer-lives t m claimed =
          let queued = w.row.agrees.queued.all t m claimed in
          let there = ready.running.runs.keeps.heap.agrees.queued.there t queued.0 queued.1.within in
          (claimers o s.machine ready.table t there.0 ready.running.runs.keeps all-ask there.1.claimed).0

      is-full : IsFull alive w.es w.waited
      is-full = fill alive w.es w.waited n (λ t e. let below = alive-below t e in omega (arith, below, past))
          claimer-lives w.all

      holds : (table : List Entry) (t : ℕ) (wait : On) → plain_waits o s.machine t ≡ Some wait
          → HoldsWait (plain_waits o s.machine) (scene_of s.machine) table t wait
      holds table t (on.Conversion u) e = absurd (plain o.launch.set (known_in o s.machine) (requests_in o s.machine) t (on.Conversion u) e)
      holds table t (on.Monitor u) e = e
      holds table t (on.Join u) e = e
      holds table t (on.Init u) e = e

      stuck : (table : List Entry) → IsStuckNow o s table
      stuck table t e =
          let waits = full (plain_waits o s.machine) alive (scene_of s.machine) w.es w.waited w.row is-full t e in
          (waits.0, w.noted t (Plain waits.0) waits.1, holds table t waits.0 waits.2)

      pub none-is-full : ⊥
      none-is-full = let un = w.unstuck refl in un.1 (stuck un.0)

-- ---- a wait goes on with the row

module _ (o : Opening) (first : ℕ) (set : SetFacts) (x : Setting Native Ref (NativeState Ref) Item) (s new : Shared)
    (frames now : List ThreadFrames) (ready : IsReady o first set x s frames) (n : ℕ) (wait : On)
    (goes : StepsTo o first set x n (WouldWait wait) s new now) (same : new.history.acts ≡ s.history.acts)
    (no_more : measure new.machine ≤ measure s.machine) (asks : Option (Request Ref Item))
    (notes : RemembersAfter n asks (WouldWait wait) s new) where
  same-acts : new.machine.acts ≡ s.machine.acts
  same-acts = sym goes.0.running.runs.acts ∙ same ∙ ready.running.runs.acts

  same-requests : requests_in o new.machine ≡ requests_in o s.machine
  same-requests = ap (λ (acts : List Recorded).
      request_after o.launch.set o.launch.main o.launch.opening (plain_code o.launch) acts) same-acts

  pub waits-on : PassesGoOn → (old : Shared) (some : Bool) → HaveAllWaited o old s n some
      → HaveAllWaited o old new (n + 1) true
  waits-on on_law old some w =
      let row = goes.1.1.rows w.es w.waited w.row in record {
        acts = same ∙ w.acts;
        work = (let before = w.work in omega (arith, no_more, before));
        es = w.es;
        waited = with_wait w.waited n row.0;
        row = row.2;
        all = subst (λ (requests : ℕ → Option PlainRequest).
            HaveWaited (asks_some requests) (with_wait w.waited n row.0) (n + 1)) (sym same-requests)
            (on_law (asks_some (requests_in o s.machine)) w.waited n row.0 w.all);
        noted = λ u why is. noted-so u why is;
        unstuck = λ e. (goes.1.1.asks.after, goes.1.1.unstuck);
      }
    where
      noted-so : (u : ℕ) (why : Why)
          → with_wait w.waited n (goes.1.1.rows w.es w.waited w.row).0 u ≡ Some why
          → waits_on new.notes u ≡ Some (on_of why)
      noted-so u why is = elim (eqb_tells u n) [
        | inl e ↦
            (let row = goes.1.1.rows w.es w.waited w.row in
            let mine : row.0 ≡ why = some-one row.0 why
            (sym (ap (λ (b : Bool). if b then Some row.0 else w.waited u) e.0) ∙ is) in
            ap (waits_on new.notes) e.1 ∙ notes.own.1
            ∙ ap (λ (y : On). Some y) (sym row.1 ∙ ap on_of mine))
        | inr e ↦ notes.waits u e.1
            ∙ w.noted u why (sym (ap (λ (b : Bool).
            if b then Some (goes.1.1.rows w.es w.waited w.row).0 else w.waited u) e.0) ∙ is)
      ]

-- ---- an event of a pass

-- Within a pass, before thread n: less is left to do than when it began, or, of each run that was ready, each live thread below
-- n has waited.
abbrev pub IsGoing : (Opening → ℕ → Type 0) → (old s : Shared) → ℕ → Bool → Type 0
IsGoing Began old s n some = IsLess old s ⊎ ((o : Opening) (first : ℕ) → Began o first → HaveAllWaited o old s n some)

abbrev pub IsOver : Stepped → Type 0
IsOver (Over halt) = Unit {0}
IsOver went = ⊥

module _ (set : SetFacts) (x : Setting Native Ref (NativeState Ref) Item) (Began : Opening → ℕ → Type 0)
    (old s new : Shared) (frames now : List ThreadFrames) (n : ℕ) (some : Bool)
    (some_began : (o : Opening) × (first : ℕ) × Began o first)
    (ready : (o : Opening) (first : ℕ) → Began o first → IsReady o first set x s frames)
    (going : IsGoing Began old s n some) where
  less-going : IsLess s new → IsLess old new
  less-going less = elim going [
    | inl before ↦ less-then old s new before less
    | inr waits ↦
        (let w = waits some_began.0 some_began.1 some_began.2 in less-after old s new w.acts w.work less)
  ]

  pub goes-on : PassesGoOn → (went : Stepped) → (IsOver went → ⊥)
      → ((o : Opening) (first : ℕ) → IsReady o first set x s frames → StepsTo o first set x n went s new now)
      → AddsBy went n s.history.acts new.history.acts → LeavesLess went s new → (asks : Option (Request Ref Item))
      → RemembersAfter n asks went s new
      → IsGoing Began old new (n + 1) true
  goes-on law Acted isnt goes adds less asks notes = inl (less-going (inl (more-acts n s.history.acts new.history.acts adds)))
  goes-on law Micro isnt goes adds less asks notes = inl (less-going (micro-less n s new adds less))
  goes-on law (WouldWait wait) isnt goes adds less asks notes = elim going [
    | inl before ↦ inl (less-waiting old s new before adds less)
    | inr waits ↦ inr (λ o first began.
        let its = ready o first began in
        waits-on o first set x s new frames now its n wait (goes o first its) adds less asks notes law old some
        (waits o first began))
  ]
  goes-on law (Over halt) isnt goes adds less asks notes = absurd (isnt tt)

  pub goes-past : LiveThreadsAsk → PassesSkip → is_live s.machine.rest.threads n ≡ false → IsGoing Began old s (n + 1) some
  goes-past live_ask skip dead = elim going [
    | inl before ↦ inl before
    | inr waits ↦ inr (λ o first began.
        waits-skip o first set x s frames (ready o first began) live_ask skip old n some dead (waits o first began))
  ]

  pub goes-less : LiveThreadsAsk → PassesFill → FullRowsWaitPlainly → ClaimersLive → PlainWaitsAreNoConversions
      → some ≡ true → length s.machine.rest.threads ≤ n → IsLess old s
  goes-less live_ask fill full claimers plain lived past = elim going [
    | inl less ↦ less
    | inr waits ↦
        (let its = ready some_began.0 some_began.1 some_began.2 in
        absurd (none-is-full some_began.0 some_began.1 set x s frames its live_ask fill full claimers plain old n
        (subst (HaveAllWaited some_began.0 old s n) lived (waits some_began.0 some_began.1 some_began.2)) past))
  ]

-- ---- as the code finds it

-- a thread that was started has frames
pub has-frames : (o : Opening) (first : ℕ) (set : SetFacts) (x : Setting Native Ref (NativeState Ref) Item) (s : Shared)
    (frames : List ThreadFrames) → IsReady o first set x s frames → (n : ℕ) → n < length s.machine.rest.threads
    → (fs : ThreadFrames) × (slice_get frames n ≡ Some fs)
has-frames o first set x s frames ready n below =
    let all = ready.many in
    let many = ready.running.runs.many in
    let few = ready.running.runs.few in get-some frames n (omega (arith, all, many, few, below))

pub not-over : (went : Stepped) → ((halt : Halt) → went ≡ Over halt → ⊥) → IsOver went → ⊥
not-over Acted isnt over = over
not-over Micro isnt over = over
not-over (WouldWait wait) isnt over = over
not-over (Over halt) isnt over = isnt halt refl

pub ready-on : (o : Opening) (first : ℕ) (set : SetFacts) (x : Setting Native Ref (NativeState Ref) Item) (t : ℕ)
    (went : Stepped) (s new : Shared) (frames : List ThreadFrames) → (IsOver went → ⊥)
    → StepsTo o first set x t went s new frames → IsReady o first set x new frames
ready-on o first set x t Acted s new frames isnt goes = goes
ready-on o first set x t Micro s new frames isnt goes = goes
ready-on o first set x t (WouldWait wait) s new frames isnt goes = goes.0
ready-on o first set x t (Over halt) s new frames isnt goes = absurd (isnt tt)

pub cause-on : (new : Shared) (went : Stepped) (a b c d : ℕ) → (IsOver went → ⊥) → IsCaused (fault_of new went) a b c d
    → IsCaused None a b c d
cause-on new Acted a b c d isnt cause = cause
cause-on new Micro a b c d isnt cause = cause
cause-on new (WouldWait wait) a b c d isnt cause = cause
cause-on new (Over halt) a b c d isnt cause = absurd (isnt tt)

-- there was room for an act, if an event came
pub room-so : (lived : Bool) (went : Stepped) (old s : Shared) (halt : Halt) → (IsOver went → ⊥)
    → (lived ≡ true → old.history.limit ≤ length old.history.acts → ⊥) → (lived ≡ false → s ≡ old)
    → (s.history.limit ≤ length s.history.acts → went ≡ Over halt) → old.history.limit ≤ length old.history.acts → ⊥
room-so true went old s halt isnt room same full at = room refl at
room-so false went old s halt isnt room same full at =
    isnt (subst IsOver (sym (full (subst (λ (y : Shared). y.history.limit ≤ length y.history.acts) (sym (same refl)) at))) tt)

-- nobody below n + 1 lives where nobody below n does, nor thread n
pub dead-on : (states : List ThreadState) (n : ℕ) → is_live states n ≡ false
    → ((u : ℕ) → u < n → is_live states u ≡ false) → (u : ℕ) → u < n + 1 → is_live states u ≡ false
dead-on states n here below u at = elim (cases_lt u n) [
  | inl less ↦ below u less
  | inr past ↦ subst (λ v. is_live states v ≡ false) (let same : n ≡ u = omega (arith, at, past) in same) here
]

-- the history may have as many acts
pub limit-same : (o : Opening) (first : ℕ) (set : SetFacts) (x : Setting Native Ref (NativeState Ref) Item) (old new : Shared)
    (frames now : List ThreadFrames) → IsReady o first set x old frames → IsReady o first set x new now
    → new.history.limit ≡ old.history.limit
limit-same o first set x old new frames now before after = after.running.runs.limit ∙ sym before.running.runs.limit
