-- The numbers below a limit that pass a test, in ascending order.
use Rattle.std.proofs.Common.{◌≡◌, ◌↔◌, ℕ, zero, suc, ◌+◌, ◌<◌, Bool, true, false, List, [], ◌∷◌, ◌++◌, ap, sym, ◌∙◌, arith}
use Rattle.std.proofs.Common.{slice_index_or, if◌then◌else◌, cond}
use Rattle.std.specs.Prelude.{filter, Contains}
use Rattle.std.specs.List.{range_with_len}
use Rattle.std.specs.List.Sorted.{IsStrictlyIncreasing}
use Rattle.std.proofs.lemmas.List.{map-id}
use Rattle.std.proofs.lemmas.List.Elements.{All-contains, filter-append, filter_passes}
use Rattle.std.proofs.lemmas.List.FromFn.{length-range_with_len, get_or-range_with_len, map-range_with_len_more}
use Rattle.std.proofs.lemmas.List.Kept.{IsStrictlyIncreasing-filter}

range-increasing : (n : ℕ) → IsStrictlyIncreasing (range_with_len 0 n)
range-increasing n k h =
    let size = length-range_with_len 0 n in
    let next : k + 1 < n = omega (arith, size, h) in
    let before : k < n = omega (arith, next) in
    omega (arith, get_or-range_with_len 0 n k 0 before, get_or-range_with_len 0 n (k + 1) 0 next)

pub filter_range-increasing : (p : ℕ → Bool) (n : ℕ) → IsStrictlyIncreasing (filter p (range_with_len 0 n))
filter_range-increasing p n = IsStrictlyIncreasing-filter p (range_with_len 0 n) (range-increasing n)

-- one more number
pub filter_range-more : (p : ℕ → Bool) (n : ℕ)
    → filter p (range_with_len 0 (n + 1)) ≡ filter p (range_with_len 0 n) ++ (if p n then n ∷ [] else [])
filter_range-more p n =
    let e : range_with_len 0 (n + 1) ≡ range_with_len 0 n ++ n ∷ [] =
    sym (map-id (range_with_len 0 (n + 1))) ∙ map-range_with_len_more (λ (k : ℕ). k) 0 n n (omega arith)
    ∙ ap (λ xs. xs ++ n ∷ []) (map-id (range_with_len 0 n)) in
    ap (filter p) e ∙ filter-append p (range_with_len 0 n) (n ∷ [])

Contains-filter : (p : ℕ → Bool) (xs : List ℕ) (n : ℕ) → p n ≡ true → Contains xs n → Contains (filter p xs) n
Contains-filter p [] n e c = absurd (omega (arith, c.1))
Contains-filter p (x ∷ xs) n e (zero, l, is) =
    let passes : p x ≡ true = ap p is ∙ e in
    rw passes (0, omega arith, is)
Contains-filter p (x ∷ xs) n e (suc k, l, is) =
    let c = Contains-filter p xs n e (k, omega (arith, l), is) in
    elim (p x) as (λ b. Contains (cond b (x ∷ filter p xs) (filter p xs)) n) [ true ↦ (suc c.0, omega (arith, c.1), c.2) | false ↦ c ]

-- the numbers that it has are those below the limit that pass
pub Contains-filter_range : (p : ℕ → Bool) (n : ℕ) → ((m : ℕ) → p m ≡ true → m < n) → (m : ℕ)
    → Contains (filter p (range_with_len 0 n)) m ↔ (p m ≡ true)
Contains-filter_range p n below m = (
  All-contains (λ k. p k ≡ true) (filter p (range_with_len 0 n)) m (filter_passes p (range_with_len 0 n)),
  λ e.
      let l : m < n = below m e in
      let at : slice_index_or (range_with_len 0 n) m m ≡ m = get_or-range_with_len 0 n m m l ∙ omega arith in
      let size = length-range_with_len 0 n in
      Contains-filter p (range_with_len 0 n) m e (m, omega (arith, size, l), at),
)
