-- What a holder of the value may do, as it is done.
use Rattle.std.proofs.Common.{◌≡◌, ℕ, ◌<◌, List, [], ◌∷◌, ◌++◌, length, slice_get, sym, subst, ap, ◌∙◌, append-nil, arith}
use Rattle.std.proofs.lemmas.List.Elements.{All-nil, All-cons}
use Rattle.turnstile.specs.declared.view.Phase.{Phase}
use Rattle.turnstile.specs.declared.view.Phase.TheVariants.{Holding}
use Rattle.turnstile.specs.declared.view.Hand.{Hand}
use Rattle.turnstile.specs.Entries.{AddsBy, SameButOf}
use Rattle.turnstile.specs.Hands.{hands_from, own_number, stock, without_next, next_of}
use Rattle.turnstile.specs.Views.{found_entries}

module _ {E : Type 0} (worker : E → ℕ) where
  pub adds_one : (n : ℕ) (before after : List E) (e : E) → after ≡ before ++ e ∷ [] → worker e ≡ n → AddsBy worker n before after
  adds_one n before after e is own = record { further = e ∷ []; behind = sym is; own = All-cons (λ e. worker e ≡ n) e [] own (All-nil (λ e. worker e ≡ n)) }

  pub adds_none : (n : ℕ) (before after : List E) → after ≡ before → AddsBy worker n before after
  adds_none n before after is = record { further = []; behind = append-nil before ∙ sym is; own = All-nil (λ e. worker e ≡ n) }

module _ {P : Type 0} where
  pub same_parts : (n : ℕ) (before after : List P) → after ≡ before → SameButOf n before after
  same_parts n before after is = record { count = ap (λ (ps : List P). length ps) is; others = λ k ne. ap (λ (ps : List P). slice_get ps k) is }

module _ {E P : Type 0} (worker : E → ℕ) where
  -- what a pass that has entered may leave, where it is known what it found
  pub adds_since : (f : Phase E P) (log : List E) (shares : List P) (n m : ℕ) (after : List E) → f ≡ Holding log shares → m ≡ n → AddsBy worker n log after → AddsBy worker m (found_entries f) after
  adds_since f log shares n m after is same adds =
      subst (λ (k : ℕ). AddsBy worker k (found_entries f) after) (sym same) (subst (λ (f : Phase E P). AddsBy worker n (found_entries f) after) (sym is) adds)

module _ {E P : Type 0} where
  -- the hands of two workers at first
  pub two_stock : (hands : List (Hand E P)) (ps : List P) → hands ≡ hands_from 0 ps → length ps ≡ 2 → 0 < length (stock hands)
  two_stock hands [] is two = absurd (omega arith)
  two_stock hands (p ∷ []) is two = absurd (omega arith)
  two_stock hands (p ∷ q ∷ ps) is two = subst (λ hs. 0 < length (stock hs)) (sym is) (omega arith)

  pub two_first : (hands : List (Hand E P)) (ps : List P) → hands ≡ hands_from 0 ps → length ps ≡ 2 → own_number (without_next hands) ≡ 0
  two_first hands [] is two = absurd (omega arith)
  two_first hands (p ∷ []) is two = absurd (omega arith)
  two_first hands (p ∷ q ∷ ps) is two = ap (λ hs. own_number (without_next hs)) is

  pub two_second : (hands : List (Hand E P)) (ps : List P) → hands ≡ hands_from 0 ps → length ps ≡ 2 → own_number (next_of hands) ≡ 1
  two_second hands [] is two = absurd (omega arith)
  two_second hands (p ∷ []) is two = absurd (omega arith)
  two_second hands (p ∷ q ∷ ps) is two = ap (λ hs. own_number (next_of hs)) is
