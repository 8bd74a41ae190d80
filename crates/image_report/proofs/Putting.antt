-- Texts that are put piece by piece, and lines that are put one after another.
use Rattle.std.proofs.Common.{◌≡◌, ℕ, suc, ◌+◌, ◌<◌, ◌≤◌, List, [], ◌∷◌, ◌++◌, length, drop, slice_index_or, refl, sym, ap, ◌∙◌, arith}
use Rattle.std.proofs.lemmas.List.{append-nil, append_assoc, at_drop_all, drop_more, length-append}
use Rattle.image_report.specs.Texts.{each}

-- one piece behind another
pub then : (old middle new a b : List ℕ) → middle ≡ old ++ a → new ≡ middle ++ b → new ≡ old ++ (a ++ b)
then old middle new a b first second =
    second ∙ ap (λ (text : List ℕ). text ++ b) first ∙ append_assoc old a b

module _ {A : Type 0} (lines_of : ℕ → A → List ℕ) (items : List A) where
  pub each-more : (i : ℕ) (item : A) → i < length items → item ≡ slice_index_or items i item
      → each lines_of i (drop i items) ≡ lines_of i item ++ each lines_of (i + 1) (drop (i + 1) items)
  each-more i item below is =
      let next : suc i ≡ i + 1 = omega arith in
      ap (each lines_of i) (drop_more items i item below)
      ∙ ap (λ (x : A). lines_of i x ++ each lines_of (suc i) (drop (i + 1) items)) (sym is)
      ∙ ap (λ (n : ℕ). lines_of i item ++ each lines_of n (drop (i + 1) items)) next

  -- where the lines of the item were put, those of the rest are left
  pub put-more : (out new whole : List ℕ) (i : ℕ) (item : A) → i < length items → item ≡ slice_index_or items i item
      → out ++ each lines_of i (drop i items) ≡ whole → new ≡ out ++ lines_of i item
      → new ++ each lines_of (i + 1) (drop (i + 1) items) ≡ whole
  put-more out new whole i item below is left put =
      let rest = each lines_of (i + 1) (drop (i + 1) items) in
      ap (λ (text : List ℕ). text ++ rest) put ∙ append_assoc out (lines_of i item) rest
      ∙ ap (λ (text : List ℕ). out ++ text) (sym (each-more i item below is)) ∙ left

  pub put-all : (out whole : List ℕ) (i : ℕ) → length items ≤ i → out ++ each lines_of i (drop i items) ≡ whole → out ≡ whole
  put-all out whole i past left =
      sym (append-nil out) ∙ sym (at_drop_all (λ (xs : List A). out ++ each lines_of i xs) items i past) ∙ left

  -- and the same of lengths
  pub count-more : (counted new whole : ℕ) (i : ℕ) (item : A) → i < length items → item ≡ slice_index_or items i item
      → counted + length (each lines_of i (drop i items)) ≡ whole → new ≡ counted + length (lines_of i item)
      → new + length (each lines_of (i + 1) (drop (i + 1) items)) ≡ whole
  count-more counted new whole i item below is left put =
      let rest = each lines_of (i + 1) (drop (i + 1) items) in
      let split = ap (λ (text : List ℕ). length text) (each-more i item below is) in
      let parts = length-append (lines_of i item) rest in
      omega (arith, left, put, split, parts)

  pub count-all : (counted whole : ℕ) (i : ℕ) → length items ≤ i
      → counted + length (each lines_of i (drop i items)) ≡ whole → counted ≡ whole
  count-all counted whole i past left =
      let none = at_drop_all (λ (xs : List A). length (each lines_of i xs)) items i past in
      omega (arith, left, none)
