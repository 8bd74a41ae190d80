-- The counts of the threads' turns go on: of an event, and of events in a row.
use Rattle.std.proofs.Common.{◌≡◌, ℕ, zero, suc, ◌≤◌, List, [], ◌∷◌, length, Option, Some, None, refl, ap, sym, subst, ◌∙◌, arith}
use Rattle.std.proofs.Common.{inl, inr}
use Rattle.std.specs.Prelude.{slice_index, slice_set}
use Rattle.std.proofs.lemmas.Bool.{cases_lt}
use Rattle.std.proofs.lemmas.Bool.Decides.{eqb_tells}
use Rattle.std.proofs.lemmas.List.{get_or-set_other, get_or-set_same}
use Rattle.ap_base.specs.Causes.{next_count}
use Rattle.ap_base.specs.declared.reference.Ref.{Ref}
use Rattle.ap_base.specs.declared.reference.Item.{Item}
use Rattle.natives.specs.declared.requests.Request.{Request}
use Rattle.durable_run.specs.Turning.{TurnsGoOn, count_on, turns_after}

-- a count that went on, and then again
on-again : (j k count : ℕ) → (times : ℕ) × (count_on j (count_on k count) ≡ count_on times count)
on-again zero k count = (k, refl)
on-again (suc j) k count = let all = on-again j k count in (suc all.0, ap next_count all.1)

pub turns-stand : (turns : List ℕ) → TurnsGoOn turns turns
turns-stand turns t = (0, refl)

pub turns-both : (a b c : List ℕ) → TurnsGoOn a b → TurnsGoOn b c → TurnsGoOn a c
turns-both a b c one two t =
    let first = one t in
    let then = two t in
    let all = on-again then.0 first.0 (slice_index a t) in (all.0, then.1 ∙ ap (count_on then.0) first.1 ∙ all.1)

-- behind the last place there is nothing to set
set-past : (counts : List ℕ) (t n : ℕ) → length counts ≤ t → slice_set counts t n ≡ counts
set-past [] t n past = refl
set-past (x ∷ counts) zero n past = absurd (omega (arith, past))
set-past (x ∷ counts) (suc t) n past = ap (λ (rest : List ℕ). x ∷ rest) (set-past counts t n (omega (arith, past)))

-- the count of thread t went on
counts-on : (turns : List ℕ) (t : ℕ) → TurnsGoOn turns (slice_set turns t (next_count (slice_index turns t)))
counts-on turns t u = elim (eqb_tells u t) [
  | inl same ↦ elim (cases_lt t (length turns)) [
    | inl below ↦ (
      1,
      ap (slice_index (slice_set turns t (next_count (slice_index turns t)))) same.1
          ∙ get_or-set_same turns t (next_count (slice_index turns t)) 0 below
          ∙ ap (λ (v : ℕ). next_count (slice_index turns v)) (sym same.1),
    )
    | inr past ↦ (0, ap (λ (counts : List ℕ). slice_index counts u) (set-past turns t (next_count (slice_index turns t)) past))
  ]
  | inr other ↦ (0, get_or-set_other turns t u (next_count (slice_index turns t)) 0 other.1)
]

-- an event
after-on : (asks : Option (Request Ref Item)) (t : ℕ) (turns : List ℕ) → TurnsGoOn turns (turns_after asks t turns)
after-on None t turns = counts-on turns t
after-on (Some request) t turns = turns-stand turns

-- one event more
pub turns-stepped : (asks : Option (Request Ref Item)) (t : ℕ) (first turns now : List ℕ) → TurnsGoOn first turns
    → now ≡ turns_after asks t turns → TurnsGoOn first now
turns-stepped asks t first turns now before is =
    turns-both first turns now before (subst (TurnsGoOn turns) (sym is) (after-on asks t turns))
