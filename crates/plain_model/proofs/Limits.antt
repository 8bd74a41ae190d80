-- What is used up where a run is full.
use Rattle.std.proofs.Common.{◌≡◌, ℕ, suc, ◌≤◌, ◌<◌, ◌-◌, Bool, true, false, List, [], ◌∷◌, ◌++◌, length, filter, nat_le}
use Rattle.std.proofs.Common.{nat_eq, refl, ap, sym, ◌∙◌, arith, inl, inr, cond}
use Rattle.std.specs.Prelude.{◌≢◌, AllPairs, Contains}
use Rattle.std.proofs.lemmas.Bool.{false≢true, le-leb, or_cases, eqb-true}
use Rattle.std.proofs.lemmas.List.{get_or_append_left, get_or_at, length-append}
use Rattle.std.proofs.lemmas.List.Elements.{All-contains, Contains-append_right}
use Rattle.run_types.specs.declared.fault.RunFault.{RunFault}
use Rattle.run_types.specs.declared.fault.RunFault.TheVariants as fault
use Rattle.run_types.specs.declared.fault.Which.{Which}
use Rattle.graph_model.specs.declared.types.Graph.{Graph}
use Rattle.graph_model.specs.Heaps.{has_number}
use Rattle.run_history.specs.Knowing.{Knowledge}
use Rattle.run_history.specs.Wanted.{Wishes}
use Rattle.plain_model.specs.Limits.{joined_of}
use Rattle.plain_model.specs.Causes.{UsesUp}
use Rattle.plain_model.specs.Ends.{FillsImage, IsTaken}
use Rattle.plain_model.specs.EndLaws.{LogsHold1024, MonitorsAre4096}

-- nothing is left of so many where as many are taken
used_up : (many taken : ℕ) (which : Which) (f : RunFault) → UsesUp 1 (many - taken) which f
    → (many ≤ taken) × (f ≡ fault.Full (record { which = which; need = 1; left = 0 }))
used_up many taken which f up =
    let none : many - taken ≡ 0 = (let more = up.more in omega (arith, more)) in (
      omega (arith, up.more),
      up.names
          ∙ ap (λ left. fault.Full (record { which = which; need = 1; left = left })) none,
    )

uses_up : (many taken : ℕ) (which : Which) → many ≤ taken
    → UsesUp 1 (many - taken) which (fault.Full (record { which = which; need = 1; left = 0 }))
uses_up many taken which full =
    let none : 0 ≡ many - taken = omega (arith, full) in
    record {
      more = omega (arith, none);
      names = ap (λ left. fault.Full (record { which = which; need = 1; left = left })) none;
    }

pub logs_hold_1024 : LogsHold1024
logs_hold_1024 = record {
  full = λ set known request t f (place, value, about, durable, kept, deep, own, up). used_up 1024 _ _ f up;
  comes = λ set known request t place value about durable kept deep own full.
      (place, value, about, durable, kept, deep, own, uses_up 1024 _ _ full);
}

pub monitors_are_4096 : MonitorsAre4096
monitors_are_4096 = record {
  full = λ set known request t f (key, about, free, up). used_up 4096 _ _ f up;
  comes = λ set known request t key about free full. (key, about, free, uses_up 4096 _ _ full);
}

-- an object past the first ones is one of those that became durable in the run
joined_from : (durable : List ℕ) (first n : ℕ) → first ≤ n → has_number durable n ≡ true
    → Contains (filter (λ m. nat_le first m) durable) n
joined_from [] first n past has = absurd (false≢true has)
joined_from (d ∷ ds) first n past has = elim (or_cases (nat_eq d n) (has_number ds n) has) [
  | inl same ↦ (let passes : nat_le first d ≡ true =
      le-leb first d (omega (arith, past, eqb-true d n same)) in
      rw passes (0, omega arith, eqb-true d n same))
  | inr rest ↦
      (elim (nat_le first d) as
      (λ b. Contains (cond b (d ∷ filter (λ m. nat_le first m) ds) (filter (λ m. nat_le first m) ds)) n) [
        | true ↦ (let there = joined_from ds first n past rest in
            (suc there.0, omega (arith, there.1), there.2))
        | false ↦ joined_from ds first n past rest
      ])
]

-- what was claimed isn't refused
claimed_once : (claimed : List ℕ) (n : ℕ) → AllPairs (λ i j. i ≢ j) (claimed ++ n ∷ [])
    → Contains claimed n → ⊥
claimed_once claimed n once (k, within, is) =
    let there : length claimed < length (claimed ++ n ∷ []) = omega (arith, length-append claimed (n ∷ [])) in
    once k (length claimed) n within there
    (get_or_append_left claimed (n ∷ []) n k within ∙ is
    ∙ sym (get_or_at claimed n [] n (length claimed) refl))

pub lines_are_for_wanted : (opening : Graph) (lines : ℕ) (known : Knowledge) (Now : Wishes) (t : ℕ) (f : RunFault)
    → FillsImage opening lines known Now t f → (n : ℕ) × Now t n × (has_number known.durable n ≡ false)
lines_are_for_wanted opening lines known Now t f fills =
    let n = fills.refused in
    let last : Contains (fills.claimed ++ n ∷ []) n = Contains-append_right fills.claimed (n ∷ []) n
    (0, omega arith, refl) in
    let (past, why) = All-contains (IsTaken opening known Now) (fills.claimed ++ n ∷ []) n fills.taken last in
    let volatile : has_number known.durable n ≡ true → ⊥ = λ durable.
    claimed_once fills.claimed n fills.once
    (All-contains (λ m. Contains fills.claimed m) (joined_of opening known) n fills.joined
    (joined_from known.durable (length opening.nodes) n (omega (arith, past)) durable)) in
    (n, fills.wanted, unless_true (has_number known.durable n) volatile)
  where
    unless_true : (b : Bool) → (b ≡ true → ⊥) → b ≡ false
    unless_true true never = absurd (never refl)
    unless_true false never = refl
