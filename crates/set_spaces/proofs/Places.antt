-- Of each class, a place of it.
use Rattle.std.proofs.Common.{◌≡◌, ◌≢◌, ⊎_elim, ℕ, ◌+◌, ◌<◌, ◌≤◌, List, Option, Some, None, length, replicate, ap, sym, ◌∙◌}
use Rattle.std.proofs.Common.{arith, below_more, set, length-set, get_or-set_same, get_or-set_other, slice_index_or}
use Rattle.std.specs.Prelude.{slice_index}
use Rattle.std.proofs.lemmas.Bool.{cases_eq, cases_lt}
use Rattle.std.proofs.lemmas.List.{get_or-replicate, get_or_past, length-replicate}
use Rattle.set_spaces.specs.Numbering.{ArePlaces}

abbrev place_at : List (Option ℕ) → ℕ → Option ℕ
place_at places c = slice_index_or places c None

-- ---- none so far

none_there : (count c : ℕ) → place_at (replicate count None) c ≡ None
none_there count c = ⊎_elim
    (λ (within : c < count). get_or-replicate count c None None within)
    (λ (past : count ≤ c). get_or_past (replicate count None) c None
    (omega (arith, past, length-replicate count (let none : Option ℕ = None in none))))
    (cases_lt c count)

pub no_places : (classes : List ℕ) (count : ℕ) (places : List (Option ℕ))
    → places ≡ replicate count None → ArePlaces classes 0 count places
no_places classes count places e = record {
  long = ap length e ∙ length-replicate count None;
  is = λ c k at. absurd (let none : None ≡ Some k = sym (none_there count c)
      ∙ ap (λ ps. place_at ps c) (sym e) ∙ at in cc);
  all = λ k lt below. absurd (omega (arith, lt));
}

-- ---- one more

module _ (classes : List ℕ) (n count : ℕ) (places : List (Option ℕ)) (are : ArePlaces classes n count places)
  where
    abbrev class : ℕ
    class = slice_index classes n

    pub place_passed : count ≤ class → ArePlaces classes (n + 1) count places
    place_passed past = record {
      long = are.long;
      is = λ c k at. let old = are.is c k at in (omega (arith, old.0), old.1);
      all = below_more
          (λ k. slice_index classes k < count
          → (j : ℕ) × (place_at places (slice_index classes k) ≡ Some j)) n
          are.all (λ below. absurd (omega (arith, below, past)));
    }

    abbrev now : List (Option ℕ)
    now = set places class (Some n)

    here : class < count → place_at now class ≡ Some n
    here below = get_or-set_same places class (Some n) None (omega (arith, below, are.long))

    there : (c : ℕ) → c ≢ class → place_at now c ≡ place_at places c
    there c other = get_or-set_other places class c (Some n) None other

    pub place_taken : class < count → ArePlaces classes (n + 1) count now
    place_taken below = record {
      long = length-set places class (Some n) ∙ are.long;
      is = λ c k at. ⊎_elim
          (λ (same : c ≡ class).
          let both : Some n ≡ Some k = sym (here below) ∙ ap (place_at now) (sym same) ∙ at in
          let it : n ≡ k = cc in
          (omega (arith, it), ap (slice_index classes) (sym it) ∙ sym same))
          (λ (other : c ≢ class). let old = are.is c k (sym (there c other) ∙ at) in
          (omega (arith, old.0), old.1))
          (cases_eq c class);
      all = below_more
          (λ k. slice_index classes k < count → (j : ℕ) × (place_at now (slice_index classes k) ≡ Some j)) n
          (λ k lt within. ⊎_elim
          (λ (same : slice_index classes k ≡ class). (n, ap (place_at now) same ∙ here below))
          (λ (other : slice_index classes k ≢ class).
          let old = are.all k lt within in (old.0, there (slice_index classes k) other ∙ old.1))
          (cases_eq (slice_index classes k) class))
          (λ within. (n, here below));
    }
