-- What becomes durable was wanted, and what is wanted is reached for a pending Asked act.
use Rattle.std.proofs.Common.{◌≡◌, ◌⊎◌, inl, inr, ℕ, true, List, [], ◌∷◌, ◌++◌, refl, ap, false}
use Rattle.std.specs.Prelude.{Option, Some, None}
use Rattle.graph_model.specs.declared.types.Graph.{Graph}
use Rattle.graph_model.specs.Heaps.{has_number}
use Rattle.run_history.specs.declared.act.Op.{Op}
use Rattle.run_history.specs.declared.act.Op.TheVariants as op
use Rattle.run_history.specs.Recorded.{Recorded}
use Rattle.run_history.specs.Knowing.{Knowledge, Pending, pending_of, next_known, known_after}
use Rattle.run_history.specs.Wanted.{Wishes, WantsFor, WantsNow, WantsAfter}
use Rattle.plain_model.specs.Facts.{SetFacts}
use Rattle.plain_model.specs.Requests.{PlainRequest}
use Rattle.plain_model.specs.Codes.{Code, request_of, frames_after_op}
use Rattle.plain_model.specs.Runs.{Rule, GoesOn}
use Rattle.plain_model.specs.Laws.{IsWantedNow}
use Rattle.plain_model.proofs.Durable.{made_durable, durable-known_after_op, has_number-append_cases, All-has_number}

-- what an operation makes durable some thread wants
made_durable_is_wanted : (set : SetFacts) (known : Knowledge) (Now : Wishes) (request : Option PlainRequest) (t n : ℕ) (named : List ℕ) (o : Op)
    → Rule set known Now request t named o → has_number (made_durable o named) n ≡ true → (u : ℕ) × Now u n
made_durable_is_wanted set known Now request t n named op.Joined rule has = All-has_number (λ m. (u : ℕ) × Now u m) named n rule.wanted has
made_durable_is_wanted set known Now request t n named o rule has = absurd (let no : false ≡ true = has in cc)

-- some thread wants object n after a front of these acts
abbrev pub WasWantedFrom : Knowledge → Wishes → List Recorded → ℕ → Type 0
WasWantedFrom known Now acts n = (front rest : List Recorded) × (u : ℕ) × (acts ≡ front ++ rest) × WantsAfter known Now front u n

module _ (set : SetFacts) (main : ℕ) (opening : Graph) {Frames : Type 0} (code : Code set main opening Frames) where
  pub durable_was_wanted : (known : Knowledge) (frames : List Frames) (Now : Wishes) (acts : List Recorded) (n : ℕ)
      → GoesOn set main opening code known frames Now acts → has_number (known_after known acts).durable n ≡ true
      → (has_number known.durable n ≡ true) ⊎ WasWantedFrom known Now acts n
  durable_was_wanted known frames Now [] n run has = inl has
  durable_was_wanted known frames Now (a ∷ acts) n run has =
      let later = durable_was_wanted (next_known known a) (frames_after_op set main opening code known.world frames a.act.thread a.act.op)
      (WantsNow (next_known known a) Now) acts n run.1 has in
      elim later [
        | inl now ↦ by_this now
        | inr (front, rest, u, is_front, wanted) ↦ inr (a ∷ front, rest, u, ap (λ xs. a ∷ xs) is_front, wanted)
      ]
    where
      here : (has_number known.durable n ≡ true) ⊎ (has_number (made_durable a.act.op a.named) n ≡ true)
          → (has_number known.durable n ≡ true) ⊎ WasWantedFrom known Now (a ∷ acts) n
      here (inl before) = inl before
      here (inr made) = let wanted = made_durable_is_wanted set known Now (request_of set main opening code known.world frames a.act.thread) a.act.thread n a.named a.act.op
          run.0.rule made in inr ([], a ∷ acts, wanted.0, refl, wanted.1)

      by_this : has_number (next_known known a).durable n ≡ true → (has_number known.durable n ≡ true) ⊎ WasWantedFrom known Now (a ∷ acts) n
      by_this now = here (has_number-append_cases known.durable (made_durable a.act.op a.named) n
          (rw (durable-known_after_op known a.act.thread a.named a.act.op) at now))

wants_for : (known : Knowledge) (Before : Wishes) (u n : ℕ) (pending : Option Pending) → pending_of known.asked u ≡ pending
    → WantsFor known Before u pending n → IsWantedNow known Before u n
wants_for known Before u n None is wants = absurd wants
wants_for known Before u n (Some p) is wants = record { pending = p; is_pending = is; reached = wants }

pub wants_now : (known : Knowledge) (Before : Wishes) (u n : ℕ) → WantsNow known Before u n → IsWantedNow known Before u n
wants_now known Before u n wants = wants_for known Before u n (pending_of known.asked u) refl wants
