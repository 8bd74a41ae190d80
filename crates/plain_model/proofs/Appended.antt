-- A history in two parts, and with one more act.
use Rattle.std.proofs.Common.{◌≡◌, ◌↔◌, ℕ, List, [], ◌∷◌, ◌++◌, refl}
use Rattle.graph_model.specs.declared.types.Graph.{Graph}
use Rattle.run_history.specs.Recorded.{Recorded}
use Rattle.run_history.specs.Knowing.{Knowledge, next_known, known_after}
use Rattle.run_history.specs.Wanted.{Wishes, WantsNow, WantsAfter}
use Rattle.plain_model.specs.Facts.{SetFacts}
use Rattle.plain_model.specs.Codes.{Code, request_of, frames_after_op, frames_after}
use Rattle.plain_model.specs.Runs.{MayAct, GoesOn}

pub known_after-append : (known : Knowledge) (xs ys : List Recorded) → known_after known (xs ++ ys) ≡ known_after (known_after known xs) ys
known_after-append known [] ys = refl
known_after-append known (x ∷ xs) ys = known_after-append (next_known known x) xs ys

pub wants_after-push : (known : Knowledge) (Now : Wishes) (acts : List Recorded) (a : Recorded) (u n : ℕ)
    → WantsAfter known Now (acts ++ a ∷ []) u n ↔ WantsNow (next_known (known_after known acts) a) (WantsAfter known Now acts) u n
wants_after-push known Now [] a u n = (λ w. w, λ w. w)
wants_after-push known Now (b ∷ acts) a u n = wants_after-push (next_known known b) (WantsNow (next_known known b) Now) acts a u n

module _ (set : SetFacts) (main : ℕ) (opening : Graph) {Frames : Type 0} (code : Code set main opening Frames) where
  abbrev next_frames : Knowledge → List Frames → Recorded → List Frames
  next_frames known frames a = frames_after_op set main opening code known.world frames a.act.thread a.act.op

  abbrev MayComeNext : Knowledge → List Frames → Wishes → List Recorded → Recorded → Type 0
  MayComeNext known frames Now acts a = MayAct set (known_after known acts) (WantsAfter known Now acts)
      (request_of set main opening code (known_after known acts).world (frames_after set main opening code known frames acts) a.act.thread) a

  pub frames_after-push : (known : Knowledge) (frames : List Frames) (acts : List Recorded) (a : Recorded)
      → frames_after set main opening code known frames (acts ++ a ∷ [])
      ≡ next_frames (known_after known acts) (frames_after set main opening code known frames acts) a
  frames_after-push known frames [] a = refl
  frames_after-push known frames (b ∷ acts) a = frames_after-push (next_known known b) (next_frames known frames b) acts a

  pub GoesOn-push : (known : Knowledge) (frames : List Frames) (Now : Wishes) (acts : List Recorded) (a : Recorded)
      → GoesOn set main opening code known frames Now acts × MayComeNext known frames Now acts a
      → GoesOn set main opening code known frames Now (acts ++ a ∷ [])
  GoesOn-push known frames Now [] a (run, may) = (may, tt)
  GoesOn-push known frames Now (b ∷ acts) a (run, may) =
      (run.0, GoesOn-push (next_known known b) (next_frames known frames b) (WantsNow (next_known known b) Now) acts a (run.1, may))

  pub GoesOn-pushed : (known : Knowledge) (frames : List Frames) (Now : Wishes) (acts : List Recorded) (a : Recorded)
      → GoesOn set main opening code known frames Now (acts ++ a ∷ [])
      → GoesOn set main opening code known frames Now acts × MayComeNext known frames Now acts a
  GoesOn-pushed known frames Now [] a run = (tt, run.0)
  GoesOn-pushed known frames Now (b ∷ acts) a run =
      let rest = GoesOn-pushed (next_known known b) (next_frames known frames b) (WantsNow (next_known known b) Now) acts a run.1 in
      ((run.0, rest.0), rest.1)

  pub GoesOn-front : (known : Knowledge) (frames : List Frames) (Now : Wishes) (front rest : List Recorded)
      → GoesOn set main opening code known frames Now (front ++ rest) → GoesOn set main opening code known frames Now front
  GoesOn-front known frames Now [] rest run = tt
  GoesOn-front known frames Now (b ∷ front) rest run =
      (run.0, GoesOn-front (next_known known b) (next_frames known frames b) (WantsNow (next_known known b) Now) front rest run.1)
