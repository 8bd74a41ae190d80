-- What a walk that ends well has seen, step by step.
use Rattle.std.proofs.Common.{◌≡◌, inl, inr, ℕ, zero, suc, ◌+◌, ◌<◌, ◌≤◌, true, false, List, [], length, take, nat_eq, nat_lt}
use Rattle.std.proofs.Common.{None, Ok, ◌∙◌, ap, subst, arith, slice_index_or, length-append}
use Rattle.std.specs.Prelude.{Contains}
use Rattle.std.specs.List.{IsDistinct}
use Rattle.std.proofs.lemmas.Bool.{cases_lt, lt-ltb, le-ltb, false≢true}
use Rattle.std.proofs.lemmas.List.{get_or_append_left, take-append-le}
use Rattle.std.proofs.lemmas.Map.Steps.{length-le_from_distinct_below}
use Rattle.graph_model.specs.declared.types.Value.{Value}
use Rattle.graph_model.specs.declared.types.Value.TheVariants.{Obj as Object}
use Rattle.graph_model.specs.declared.types.Shape.{Shape}
use Rattle.graph_model.specs.Heaps.{has_number}
use Rattle.graph_model.specs.Canon.{with_new}
use Rattle.graph_model.proofs.Numbers.{has_number-any, with_new-keeps, with_new-has, with_new-only, with_new-prefix}
use Rattle.graph_model.proofs.Numbers.{with_new-distinct}
use Rattle.image_layout.specs.Places.{first_object_line}
use Rattle.image_meaning.specs.Checks.{Words}
use Rattle.image_meaning.specs.Objects.{values_at, object_fault}
use Rattle.image_meaning.specs.Meaning.{look_at, walk}
use Rattle.image_meaning.proofs.Standing.{after_ok, bind_ok}

-- an object that the values refer to lies within an image of so many lines
abbrev pub AreInImage : ℕ → List Value → Type 0
AreInImage size values = (line : ℕ) → Contains values (Object line) → (first_object_line ≤ line) × (line < size)

-- all objects that the values refer to are among the lines
abbrev pub AreAmong : List ℕ → List Value → Type 0
AreAmong lines values = (line : ℕ) → Contains values (Object line) → has_number lines line ≡ true

module _ (shapes : List Shape) (size : ℕ) (words : Words) (start : List Value) (in_image : AreInImage size start)
    (values_in_image : (earlier : List ℕ) (line : ℕ) → object_fault shapes size words earlier line ≡ None → AreInImage size (values_at shapes words line)) where
  -- after k steps, of what was found the first k were checked, and what they refer to was found
  pub record Gone (k : ℕ) (lines : List ℕ) : Type 0 where
    pub once : IsDistinct nat_eq lines
    pub within : (line : ℕ) → has_number lines line ≡ true → (first_object_line ≤ line) × (line < size)
    pub started : AreAmong lines start
    pub checked : (j : ℕ) → j < k → j < length lines → object_fault shapes size words (take j lines) (slice_index_or lines j 0) ≡ None
    pub met : (j : ℕ) → j < k → j < length lines → AreAmong lines (values_at shapes words (slice_index_or lines j 0))

  gone_on : (k : ℕ) (lines next : List ℕ) → Gone k lines → look_at shapes size words k lines ≡ Ok next → Gone (suc k) next
  gone_on k lines next gone h = elim (cases_lt k (length lines)) [
    | inr past ↦ (
        let e : nat_lt k (length lines) ≡ false = le-ltb k (length lines) past in
        let same : Ok lines ≡ Ok next = rw e at h in
        let is : lines ≡ next = cc in
        subst (λ l. Gone (suc k) l) is (record {
          once = gone.once;
          within = gone.within;
          started = gone.started;
          checked = λ j below there. gone.checked j (omega (arith, there, past)) there;
          met = λ j below there. gone.met j (omega (arith, there, past)) there;
        }))
    | inl there ↦ (
        let line = slice_index_or lines k 0 in
        let values = values_at shapes words line in
        let e : nat_lt k (length lines) ≡ true = lt-ltb k (length lines) there in
        let parts = after_ok (object_fault shapes size words (take k lines) line) (Ok (with_new lines values)) next (rw e at h) in
        let is : with_new lines values ≡ next = (let f = parts.1 in cc) in
        subst (λ l. Gone (suc k) l) is (further k lines gone there parts.0))
  ]
    where
      further : (k : ℕ) (lines : List ℕ) → Gone k lines → k < length lines
          → object_fault shapes size words (take k lines) (slice_index_or lines k 0) ≡ None
          → Gone (suc k) (with_new lines (values_at shapes words (slice_index_or lines k 0)))
      further k lines gone there passes =
          let line = slice_index_or lines k 0 in
          let values = values_at shapes words line in
          let p = with_new-prefix lines values in
          let size_of : length (with_new lines values) ≡ length lines + length p.0 = ap (λ (l : List ℕ). length l) p.1 ∙ length-append lines p.0 in
          let read : (j : ℕ) → j < length lines → slice_index_or (with_new lines values) j 0 ≡ slice_index_or lines j 0 =
          λ j h. ap (λ (l : List ℕ). slice_index_or l j 0) p.1 ∙ get_or_append_left lines p.0 0 j h in
          let before : (j : ℕ) → j < length lines → take j (with_new lines values) ≡ take j lines =
          λ j h. ap (λ (l : List ℕ). take j l) p.1 ∙ take-append-le j lines p.0 (omega (arith, h)) in
          record {
            once = with_new-distinct lines values gone.once;
            within = λ n h. with_new-only (λ n. (first_object_line ≤ n) × (n < size)) lines values gone.within (values_in_image (take k lines) line passes) n h;
            started = λ n c. with_new-keeps lines values n (gone.started n c);
            checked = λ j below h. elim (cases_lt j k) [
              | inl low ↦ (let l : j < length lines = omega (arith, low, there) in
                  rw (before j l, read j l) (gone.checked j low l))
              | inr high ↦ (let same : j ≡ k = omega (arith, below, high) in rw (same, before k there, read k there) passes)
            ];
            met = λ j below h. elim (cases_lt j k) [
              | inl low ↦ (let l : j < length lines = omega (arith, low, there) in
                  rw (read j l) (λ n c. with_new-keeps lines values n (gone.met j low l n c)))
              | inr high ↦ (let same : j ≡ k = omega (arith, below, high) in
                  rw (same, read k there) (λ n c. with_new-has lines values n c))
            ];
          }

  gone_at_first : Gone 0 (with_new [] start)
  unfolding IsDistinct
  gone_at_first = record {
    once = with_new-distinct [] start tt;
    within = λ n h. with_new-only (λ n. (first_object_line ≤ n) × (n < size)) [] start (λ m e. absurd (false≢true e)) in_image n h;
    started = λ n c. with_new-has [] start n c;
    checked = λ j below h. absurd (omega (arith, below));
    met = λ j below h. absurd (omega (arith, below));
  }

  pub gone_after : (k : ℕ) (lines : List ℕ) → walk shapes size words start k ≡ Ok lines → Gone k lines
  unfolding walk
  gone_after zero lines h = let e : Ok (with_new [] start) ≡ Ok lines = h in let is : with_new [] start ≡ lines = cc in subst (λ l. Gone 0 l) is gone_at_first
  gone_after (suc k) lines h =
      let parts = bind_ok (walk shapes size words start k) (look_at shapes size words k) lines h in
      gone_on k parts.0 lines (gone_after k parts.0 parts.1) parts.2

  -- where a walk of so many steps ends, all that was found was checked
  pub all_gone : (lines : List ℕ) → walk shapes size words start size ≡ Ok lines
      → (length lines ≤ size) × Gone size lines
  all_gone lines h =
      let gone = gone_after size lines h in
      (length-le_from_distinct_below lines size gone.once (λ q e. (gone.within q (has_number-any lines q ∙ e)).1), gone)
