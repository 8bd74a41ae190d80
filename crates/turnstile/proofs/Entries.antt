-- What one worker adds is nothing to another.
use Rattle.std.proofs.Common.{◌≡◌, ℕ, zero, suc, ◌==◌, ◌<◌, ◌≢◌, List, [], ◌∷◌, ◌++◌, length, All, slice_get, cond, Bool, false, Some, refl, sym, ap, ◌∙◌, arith, append-nil, append_assoc}
use Rattle.std.proofs.lemmas.Bool.Decides.{nat_tests}
use Rattle.std.proofs.lemmas.List.Elements.{All-head, All-tail, filter-append}
use mathlib.Core.List.{IsPrefix}
use Rattle.turnstile.specs.Entries.{entries_by}

module _ {E : Type 0} (worker : E → ℕ) where
  none_by : (k n : ℕ) (further : List E) → All (λ e. worker e ≡ n) further → k ≢ n → entries_by worker k further ≡ []
  none_by k n [] own ne = refl
  none_by k n (e ∷ es) own ne =
      let is = All-head (λ e. worker e ≡ n) e es own in
      let no : (worker e == k) ≡ false = grind (arith, nat_tests, is, ne) in
      ap (λ (b : Bool). cond b (e ∷ entries_by worker k es) (entries_by worker k es)) no ∙ none_by k n es (All-tail (λ e. worker e ≡ n) e es own) ne

  -- what one worker adds is nothing to another
  pub entries_else : (k n : ℕ) (log further : List E) → All (λ e. worker e ≡ n) further → k ≢ n → entries_by worker k (log ++ further) ≡ entries_by worker k log
  entries_else k n log further own ne = filter-append (λ e. worker e == k) log further
      ∙ (ap (λ (l : List E). entries_by worker k log ++ l) (none_by k n further own ne) ∙ append-nil (entries_by worker k log))

module _ {E : Type 0} where
  pub prefix_itself : (xs : List E) → IsPrefix xs xs
  prefix_itself xs = ([], append-nil xs)

  pub prefix_longer : (xs ys more : List E) → IsPrefix xs ys → IsPrefix xs (ys ++ more)
  prefix_longer xs ys more p = (p.0 ++ more, sym (append_assoc xs p.0 more) ∙ ap (λ (l : List E). l ++ more) p.1)

module _ {P : Type 0} where
  get_lt : (ps : List P) (n : ℕ) (p : P) → slice_get ps n ≡ Some p → n < length ps
  get_lt [] n p e = absurd (cc e)
  get_lt (q ∷ ps) zero p e = omega arith
  get_lt (q ∷ ps) (suc n) p e = let t = get_lt ps n p e in omega arith

  get_some : (ps : List P) (n : ℕ) → n < length ps → (p : P) × (slice_get ps n ≡ Some p)
  get_some [] n lt = absurd (omega arith)
  get_some (q ∷ ps) zero lt = (q, refl)
  get_some (q ∷ ps) (suc n) lt = get_some ps n (omega arith)

  -- where there are as many parts as before, a part that was there is there
  pub get_still : (before after : List P) (n : ℕ) (p : P) → length after ≡ length before → slice_get before n ≡ Some p → (q : P) × (slice_get after n ≡ Some q)
  get_still before after n p same at = let lt = get_lt before n p at in get_some after n (omega arith)
