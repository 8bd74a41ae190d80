-- An event of one thread leaves each other its state and its frames.
use Rattle.std.proofs.Common.{◌≡◌, ◌≢◌, ℕ, zero, suc, false, List, [], ◌∷◌, map, refl, sym, ◌∙◌, ap, subst}
use Rattle.std.specs.Prelude.{Option, Some, None, slice_get, slice_set}
use Rattle.ap_base.specs.declared.reference.Ref.{Ref}
use Rattle.ap_base.specs.declared.reference.Item.{Item}
use Rattle.natives.specs.declared.requests.Request.{Request}
use Rattle.natives.specs.declared.requests.Reply.{Reply}
use Rattle.run_history.specs.declared.act.Op.{Op}
use Rattle.run_history.specs.Worlds.{Thread, World, threads_after_op}
use Rattle.shared_objects.specs.declared.rest.Rest.{Rest}
use Rattle.shared_objects.specs.declared.threads.ThreadState.{ThreadState}
use Rattle.shared_objects.specs.Worlds.{plain_thread}
use Rattle.run_forms.specs.Views.{ThreadFrames}
use Rattle.run_forms.specs.Standing.{Launch}
use Rattle.run_forms.specs.Laws.{answered_threads}
use Rattle.twin_forms.specs.Table.{Entry}
use Rattle.lasting_steps.proofs.Asking.{get-append, threads-other}
use Rattle.machine_ends.specs.Passed.{Opening, Machine}
use Rattle.machine_ends.specs.Passed.{DoesRequest, RegionStep}
use Rattle.machine_ends.specs.RegionSteps as step
use Rattle.machine_ends.specs.Passed.{Happens}
use Rattle.machine_ends.specs.Passed.{called, written, fenced, converted, failed, begun, sealed, asked, acted}
use Rattle.machine_ends.specs.Passed.{stored}
use Rattle.machine_ends.specs.Passed.{region}
use Rattle.machine_ends.specs.Passed.{frames_by, region_frames}
use Rattle.machine_threads.specs.Keeping.{OthersAskOn}

-- ---- lists

get-set : {X : Type 0} (xs : List X) (t u : ℕ) (x : X) → u ≢ t → slice_get (slice_set xs t x) u ≡ slice_get xs u
get-set [] t u x other = refl
get-set (y ∷ xs) zero zero x other = absurd (other refl)
get-set (y ∷ xs) zero (suc u) x other = refl
get-set (y ∷ xs) (suc t) zero x other = refl
get-set (y ∷ xs) (suc t) (suc u) x other = get-set xs t u x (λ same. other (ap suc same))

-- Thread u hasn't ended.
pub record Lives (states : List ThreadState) (u : ℕ) : Type 0 where
  pub state : ThreadState
  pub there : slice_get states u ≡ Some state
  pub lives : state.ended ≡ false

pub plain-get : (states : List ThreadState) (u : ℕ) (state : ThreadState) → slice_get states u ≡ Some state
    → slice_get (map plain_thread states) u ≡ Some (plain_thread state)
plain-get [] u state is = absurd (let no : ◌≡◌ {A = Option ThreadState} None (Some state) = is in cc)
plain-get (s ∷ states) zero state is =
    let same : s ≡ state = (let e : ◌≡◌ {A = Option ThreadState} (Some s) (Some state) = is in cc) in
    ap (λ (x : ThreadState). Some (plain_thread x)) same
plain-get (s ∷ states) (suc u) state is = plain-get states u state is

pub plain-lives : (states : List ThreadState) (u : ℕ) (thread : Thread) → thread.ended ≡ false
    → slice_get (map plain_thread states) u ≡ Some thread → Lives states u
plain-lives [] u thread lives is = absurd (let no : ◌≡◌ {A = Option Thread} None (Some thread) = is in cc)
plain-lives (s ∷ states) zero thread lives is =
    let same : plain_thread s ≡ thread
    = (let e : ◌≡◌ {A = Option Thread} (Some (plain_thread s)) (Some thread) = is in cc) in
    record { state = s; there = refl; lives = ap (λ (x : Thread). x.ended) same ∙ lives }
plain-lives (s ∷ states) (suc u) thread lives is =
    let rest = plain-lives states u thread lives is in
    record { state = rest.state; there = rest.there; lives = rest.lives }

-- ---- an act of a request

module _ (o : Opening) (m m' : Machine) (es : List Entry) (t u : ℕ) (request : Request Ref Item) (operation : Op)
    (r : Reply Ref Item) (does : DoesRequest o m m' es t request operation r) (other : u ≢ t) where
  threads-are : map plain_thread m'.rest.threads
      ≡ threads_after_op (map plain_thread m.rest.threads) t operation
  threads-are = ap (λ (w : World). w.threads) (does.step.follows []).2

  pub act-lives : Lives m.rest.threads u → Lives m'.rest.threads u
  act-lives old = plain-lives m'.rest.threads u (plain_thread old.state) old.lives
      (ap (λ (ts : List Thread). slice_get ts u) threads-are
      ∙ threads-other (map plain_thread m.rest.threads) t u operation (plain_thread old.state) (λ same. other (sym same))
      (plain-get m.rest.threads u old.state old.there))

same-lives : (rest rest' : Rest) (u : ℕ) → rest'.threads ≡ rest.threads → Lives rest.threads u → Lives rest'.threads u
same-lives rest rest' u same old = subst (λ states. Lives states u) (sym same) old

-- ---- events

module _ (o : Opening) (t u : ℕ) (other : u ≢ t) where
  region-lives : (m m' : Machine) (es : List Entry) → RegionStep o t m es m' → Lives m.rest.threads u
      → Lives m'.rest.threads u
  region-lives m _ es (step.begun m' request r e) old = act-lives o m m' es t u _ _ _ e.does other old
  region-lives m _ es (step.guarded request place item entry e) old = old
  region-lives m _ es (step.logged twin log e) old = old
  region-lives m _ es (step.stored m' request place item e) old = act-lives o m m' es t u _ _ _ e.does other old
  region-lives m _ es (step.ending twin request log e) old = old
  region-lives m _ es (step.closing twin request log e) old = old
  region-lives m _ es (step.ended m' request r e) old = act-lives o _ m' es t u _ _ _ e.does other old

  pub event-lives : (m m' : Machine) (es es' : List Entry) → Happens o t m es m' es' → Lives m.rest.threads u
      → Lives m'.rest.threads u
  event-lives m _ es _ (called twin e) old = old
  event-lives m _ es _ (written twin e) old = old
  event-lives m _ es _ (fenced twin e) old = old
  event-lives m _ es _ (converted m' answer e no_seal) old =
      same-lives m.rest m'.rest u (ap (λ (x : Machine). x.rest.threads) e.same) old
  event-lives m _ es _ (failed m' e) old =
      same-lives m.rest m'.rest u (ap (λ (x : Machine). x.rest.threads) e.same) old
  event-lives m _ es _ (begun m' es' n word answer e) old =
      same-lives m.rest m'.rest u (ap (λ (x : Machine). x.rest.threads) e.same) old
  event-lives m _ es _ (sealed m' set named e) old =
      same-lives m.rest m'.rest u (ap (λ (x : Machine). x.rest.threads) e.converts.same) old
  event-lives m _ es _ (asked request place item e) old = old
  event-lives m _ es _ (acted m' request operation r e) old = act-lives o m m' es t u _ _ _ e.does other old
  event-lives m _ es _ (stored m' request place item e) old = act-lives o m m' es t u _ _ _ e.does other old
  event-lives m _ es _ (region m' e) old = region-lives m m' es e old

  -- ---- frames

  module _ (threads : List ThreadFrames) (gs : ThreadFrames) (there : slice_get threads u ≡ Some gs) where
    set-there : (fs : ThreadFrames) → slice_get (slice_set threads t fs) u ≡ Some gs
    set-there fs = get-set threads t u fs other ∙ there

    answered-there : (launch : Launch) (fs : ThreadFrames) (r : Reply Ref Item) (now : List ThreadFrames)
        → slice_get (answered_threads launch threads t fs r now) u ≡ Some gs
    answered-there launch fs r now = get-append (slice_set threads t _) now u gs (set-there _)

    region-there : (m m' : Machine) (es : List Entry) (e : RegionStep o t m es m') (fs : ThreadFrames)
        → slice_get (region_frames e threads fs) u ≡ Some gs
    region-there m _ es (step.begun m' request r e) fs = answered-there o.launch fs r []
    region-there m _ es (step.guarded request place item entry e) fs = there
    region-there m _ es (step.logged twin log e) fs = there
    region-there m _ es (step.stored m' request place item e) fs = answered-there o.launch fs _ []
    region-there m _ es (step.ending twin request log e) fs = there
    region-there m _ es (step.closing twin request log e) fs = there
    region-there m _ es (step.ended m' request r e) fs = answered-there o.launch fs r []

    pub event-there : (m m' : Machine) (es es' : List Entry) (e : Happens o t m es m' es') (fs : ThreadFrames)
        (now : List ThreadFrames) → slice_get (frames_by e threads fs now) u ≡ Some gs
    event-there m _ es _ (called twin e) fs now = there
    event-there m _ es _ (written twin e) fs now = there
    event-there m _ es _ (fenced twin e) fs now = set-there _
    event-there m _ es _ (converted m' answer e no_seal) fs now = there
    event-there m _ es _ (failed m' e) fs now = there
    event-there m _ es _ (begun m' es' n word answer e) fs now = there
    event-there m _ es _ (sealed m' set named e) fs now = there
    event-there m _ es _ (asked request place item e) fs now = there
    event-there m _ es _ (acted m' request operation r e) fs now = answered-there o.launch fs r now
    event-there m _ es _ (stored m' request place item e) fs now = there
    event-there m _ es _ (region m' e) fs now = region-there m m' es e fs

pub others_ask_on : OthersAskOn
others_ask_on o t u m m' es es' threads fs gs now request k e other asks =
    let lives = event-lives o t u other m m' es es' e
    (record { state = asks.state; there = asks.thread; lives = asks.lives }) in record {
      state = lives.state;
      thread = lives.there;
      lives = lives.lives;
      frames = event-there o t u other threads gs asks.frames m m' es es' e fs now;
      asks = asks.asks;
    }
