-- What holds at first and is kept by each act of a run holds after the run.
use Rattle.std.proofs.Common.{◌≡◌, ℕ, suc, ◌+◌, Bool, true, false, List, [], ◌∷◌, ◌++◌, refl, sym, subst, append_assoc}
use Rattle.std.proofs.Common.{if◌then◌else◌, arith}
use Rattle.std.specs.Prelude.{Option, Some, None, slice_get}
use Rattle.std.proofs.lemmas.List.{append-nil}
use Rattle.graph_model.specs.declared.types.Graph.{Graph}
use Rattle.run_history.specs.Recorded.{Recorded}
use Rattle.run_history.specs.Worlds.{Thread, World}
use Rattle.run_history.specs.Knowing.{Knowledge, next_known, known_after}
use Rattle.run_history.specs.Wanted.{Wishes, NoWish, WantsNow}
use Rattle.plain_model.specs.Facts.{SetFacts}
use Rattle.plain_model.specs.First.{first_known}
use Rattle.plain_model.specs.Requests.{PlainRequest}
use Rattle.plain_model.specs.Codes.{Code, asks_live, request_of, frames_after_op}
use Rattle.plain_model.specs.Runs.{MayAct, GoesOn, IsPlainRun, first_frames, known_of}
use Rattle.plain_model.specs.RunLaws.{how_many}

module _ (set : SetFacts) (main : ℕ) (opening : Graph) {Frames : Type 0}
    (code : Code set main opening Frames) where
  -- an act that may come keeps what holds
  abbrev pub Keeps : (Knowledge → List Recorded → Type 0) → Type 1
  Keeps P = (known : Knowledge) (frames : List Frames) (Now : Wishes) (before : List Recorded) (a : Recorded)
      → MayAct set known Now (request_of set main opening code known.world frames a.act.thread) a
      → P known before → P (next_known known a) (before ++ a ∷ [])

  goes_on_keeps : (P : Knowledge → List Recorded → Type 0) → Keeps P → (known : Knowledge)
      (frames : List Frames)
      (Now : Wishes) (before acts : List Recorded) → GoesOn set main opening code known frames Now acts
      → P known before → P (known_after known acts) (before ++ acts)
  goes_on_keeps P keeps known frames Now before [] run holds = subst (P known) (sym (append-nil before)) holds
  goes_on_keeps P keeps known frames Now before (a ∷ acts) run holds =
      subst (P (known_after (next_known known a) acts)) (append_assoc before (a ∷ []) acts)
      (goes_on_keeps P keeps (next_known known a)
      (frames_after_op set main opening code known.world frames a.act.thread a.act.op)
      (WantsNow (next_known known a) Now) (before ++ a ∷ []) acts run.1
      (keeps known frames Now before a run.0 holds))

  pub run_keeps : (P : Knowledge → List Recorded → Type 0) → Keeps P → P (first_known set opening) []
      → (acts : List Recorded) → IsPlainRun set main opening code acts
      → P (known_of set main opening code acts) acts
  run_keeps P keeps first acts run =
      goes_on_keeps P keeps (first_known set opening)
      (first_frames set main opening code) NoWish [] acts run first

  -- a thread that asks something is there
  asks_there : (thread : Option Thread) (frames : Option Frames) (r : PlainRequest)
      → asks_live set main opening code thread frames ≡ Some r → (it : Thread) × (thread ≡ Some it)
  asks_there None frames r is = absurd (let no : ◌≡◌ {A = Option PlainRequest} None (Some r) = is in cc)
  asks_there (Some it) frames r is = (it, refl)

  pub asking_is_there : (world : World) (frames : List Frames) (t : ℕ) (r : PlainRequest)
      → request_of set main opening code world frames t ≡ Some r
      → (it : Thread) × (slice_get world.threads t ≡ Some it)
  asking_is_there world frames t r is = asks_there (slice_get world.threads t) (slice_get frames t) r is

-- one more act is one more where it passes the test
pub how_many-push : (test : Recorded → Bool) (acts : List Recorded) (a : Recorded)
    → how_many test (acts ++ a ∷ []) ≡ how_many test acts + (if test a then 1 else 0)
how_many-push test [] a = elim (test a) as (λ b. (if b then 1 else 0) ≡ 0 + (if b then 1 else 0))
    [ true ↦ refl | false ↦ refl ]
how_many-push test (b ∷ acts) a =
    let rest = how_many-push test acts a in
    elim (test b) as
    (λ c. (if c then suc (how_many test (acts ++ a ∷ [])) else how_many test (acts ++ a ∷ []))
    ≡ (if c then suc (how_many test acts) else how_many test acts) + (if test a then 1 else 0)) [
      | true ↦ omega (arith, rest)
      | false ↦ rest
    ]
