-- The versions of a line: some are always there, and what a read gives is one that a stop may leave.
use Rattle.std.proofs.Common.{◌≡◌, ◌⊎◌, inl, inr, ⊎_elim, ◌<◌, ◌≤◌, ◌+◌, ◌-◌, ℕ, zero, suc, List, [], ◌∷◌, ◌++◌, true, false}
use Rattle.std.proofs.Common.{nat_eq, IsTrue, Some, length, get_or, slice_index, refl, ◌∙◌, ap, sym, subst, arith, All, reverse}
use Rattle.std.proofs.Common.{nat_lt, ◌&&◌, ◌==◌}
use Rattle.std.proofs.Math.ListN.{get_or-eq_default}
use Rattle.std.proofs.lemmas.List.{get_or-reverse, length-reverse, get_or_append_left, get_or_push}
use Rattle.std.proofs.lemmas.Bool.{cases_eq, cases_lt}
use Rattle.std.proofs.lemmas.Bool.Decides.{nat_tests}
use Rattle.line_image.specs.Trace.{Trace, LeavesNow, newest, versions, versions_from, versions_after, OneHas, is_within}
use Rattle.line_image.specs.Crash.{choice, state_after, state_at, word_left}
use Rattle.line_image.specs.declared.effect.Effect.{Effect}
use Rattle.line_image.specs.declared.effect.Done.{Done}
use Rattle.line_image.specs.declared.effect.Done.TheVariants.{Wrote, Fenced}
use Rattle.line_image.proofs.Generator.{word_left_lem, choice-below}

some_after : (done : Done) (l : ℕ) (versions : List (List ℕ)) → 0 < length versions → 0 < length (versions_after done l versions)
some_after (Wrote line words) l versions some = elim (cases_eq line l) [
  | inl same ↦ let test : nat_eq line l ≡ true = grind (arith, nat_tests) in rw test (omega arith)
  | inr other ↦ let test : nat_eq line l ≡ false = grind (arith, nat_tests) in rw test some
]
some_after Fenced l versions some = omega arith

-- a line has a version
pub versions_some : (first : List ℕ) (done : List Effect) (l : ℕ) → 0 < length (versions_from first done l)
versions_some first [] l = omega arith
versions_some first (effect ∷ done) l = some_after effect.done l (versions_from first done l) (versions_some first done l)

-- a version by its number
pub one_has_at : (versions : List (List ℕ)) (n w : ℕ) → n < length versions → OneHas versions w (slice_index (get_or versions n []) w)
one_has_at [] n w lt = absurd (omega arith)
one_has_at (words ∷ rest) zero w lt = inl refl
one_has_at (words ∷ rest) (suc n) w lt = inr (one_has_at rest n w (omega arith))

newest_at : (versions : List (List ℕ)) → newest versions ≡ get_or versions 0 []
newest_at [] = refl
newest_at (words ∷ rest) = refl

-- what a read gives
pub newest_left : (first : List ℕ) (done : List Effect) (l w : ℕ) → OneHas (versions_from first done l) w (slice_index (newest (versions_from first done l)) w)
newest_left first done l w = rw (newest_at (versions_from first done l)) (one_has_at (versions_from first done l) 0 w (versions_some first done l))

past_words : (size line l w : ℕ) (words : List ℕ) → IsTrue (nat_lt line size && length words == 8) → line ≡ l → (size ≤ l) ⊎ (8 ≤ w) → slice_index words w ≡ 0
past_words size line l w words within same past =
    let line_within : line < size = grind (arith, nat_tests) in
    let eight : length words ≡ 8 = grind (arith, nat_tests) in
    let beyond : 8 ≤ w = ⊎_elim (λ (far : size ≤ l). absurd (omega arith)) (λ (b : 8 ≤ w). b) past in
    let short : length words ≤ w = omega arith in
    get_or-eq_default words 0 short

-- Past the last line and the eighth word all is 0.
past_after : (size : ℕ) (done : Done) (l w : ℕ) (versions : List (List ℕ)) → IsTrue (is_within size done) → (size ≤ l) ⊎ (8 ≤ w)
    → slice_index (newest versions) w ≡ 0 → slice_index (newest (versions_after done l versions)) w ≡ 0
past_after size (Wrote line words) l w versions within past before = elim (cases_eq line l) [
  | inl same ↦ let test : nat_eq line l ≡ true = grind (arith, nat_tests) in rw test (past_words size line l w words within same past)
  | inr other ↦ let test : nat_eq line l ≡ false = grind (arith, nat_tests) in rw test before
]
past_after size Fenced l w versions within past before = before

pub past_newest : (size : ℕ) (first : List ℕ) (done : List Effect) (l w : ℕ) → All (λ (effect : Effect). IsTrue (is_within size effect.done)) done → (size ≤ l) ⊎ (8 ≤ w)
    → slice_index first w ≡ 0 → slice_index (newest (versions_from first done l)) w ≡ 0
past_newest size first [] l w within past none = none
past_newest size first (effect ∷ done) l w within past none =
    past_after size effect.done l w (versions_from first done l) (within 0 effect (omega arith)) past
    (past_newest size first done l w (λ k d lt. within (suc k) d (omega arith)) past none)

-- the number of a version from the other end
reversed_has : (versions : List (List ℕ)) (n w : ℕ) → n < length versions → OneHas versions w (slice_index (get_or (reverse versions) n []) w)
reversed_has versions n w lt =
    let other : length versions - 1 - n < length versions = omega arith in
    subst (λ (words : List ℕ). OneHas versions w (slice_index words w)) (sym (get_or-reverse versions n [] lt)) (one_has_at versions (length versions - 1 - n) w other)

-- what is picked of a line, a stop may leave
pub picked_left : (pick : ℕ) (h : Trace) (l w : ℕ) → OneHas (versions h l) w (word_left pick h l w)
picked_left pick h l w =
    let vs = versions h l in
    let state = state_at pick h l in
    let long : length (reverse vs) ≡ length vs = length-reverse vs in
    let some : 0 < length vs = versions_some (get_or h.first l []) h.done l in
    let below : choice pick (length (reverse vs)) (state_after state (w + 1)) < length vs =
    rw long (choice-below pick (length vs) (state_after state (w + 1)) some) in
    subst (λ (v : ℕ). OneHas vs w v) (sym (word_left_lem pick h l w)) (reversed_has vs (choice pick (length (reverse vs)) (state_after state (w + 1))) w below)

no_word : (size : ℕ) (lines : List (List ℕ)) (l w : ℕ) → length lines ≡ size → All (λ (line : List ℕ). length line ≡ 8) lines → (size ≤ l) ⊎ (8 ≤ w) → slice_index (get_or lines l []) w ≡ 0
no_word size lines l w size_is eights past = elim (cases_lt l (length lines)) [
  | inl below ↦
      let beyond : 8 ≤ w = ⊎_elim (λ (far : size ≤ l). absurd (omega arith)) (λ (b : 8 ≤ w). b) past in
      let short : length (get_or lines l []) ≤ w = omega (arith, eights l [] below) in
      get_or-eq_default (get_or lines l []) 0 short
  | inr above ↦ ap (λ (line : List ℕ). slice_index line w) (get_or-eq_default lines [] above)
]

-- lines whose words are picked are an outcome of a stop
pub lines_left : (pick : ℕ) (h : Trace) (lines : List (List ℕ)) → length lines ≡ length h.first
    → All (λ (line : List ℕ). length line ≡ 8) h.first → All (λ (line : List ℕ). length line ≡ 8) lines
    → All (λ (effect : Effect). IsTrue (is_within (length h.first) effect.done)) h.done
    → ((l w : ℕ) → l < length h.first → w < 8 → slice_index (get_or lines l []) w ≡ word_left pick h l w)
    → LeavesNow (Some h) (λ l w. slice_index (get_or lines l []) w)
lines_left pick h lines size eights new_eights within picked l w = ⊎_elim
    (λ (past : (length h.first ≤ l) ⊎ (8 ≤ w)).
    let none : slice_index (newest (versions h l)) w ≡ 0 =
    past_newest (length h.first) (get_or h.first l []) h.done l w within past (no_word (length h.first) h.first l w refl eights past) in
    let new_none : slice_index (get_or lines l []) w ≡ 0 = no_word (length h.first) lines l w size new_eights past in
    subst (λ (v : ℕ). OneHas (versions h l) w v) (none ∙ sym new_none) (newest_left (get_or h.first l []) h.done l w))
    (λ (here : (l < length h.first) × (w < 8)). subst (λ (v : ℕ). OneHas (versions h l) w v) (sym (picked l w here.0 here.1)) (picked_left pick h l w))
    (place l w (length h.first))
  where
    place : (l w size : ℕ) → ((size ≤ l) ⊎ (8 ≤ w)) ⊎ ((l < size) × (w < 8))
    place l w size = elim (cases_lt l size) [
      | inr far ↦ inl (inl far)
      | inl near ↦ elim (cases_lt w 8) [ inr beyond ↦ inl (inr beyond) | inl below ↦ inr (near, below) ]
    ]

pub All-reverse : {X : Type 0} (P : X → Type 0) (xs : List X) → All P xs → All P (reverse xs)
All-reverse P xs all k d lt =
    let long : length (reverse xs) ≡ length xs = length-reverse xs in
    let below : k < length xs = omega arith in
    subst P (sym (get_or-reverse xs k d below)) (all (length xs - 1 - k) d (omega arith))

-- what holds of each element, and of one more
pub each_pushed : {X : Type 0} (xs : List X) (x d : X) (n : ℕ) (P : ℕ → X → Type 0) → length xs ≡ n → ((k : ℕ) → k < n → P k (get_or xs k d)) → P n x
    → (k : ℕ) → k < n + 1 → P k (get_or (xs ++ x ∷ []) k d)
each_pushed xs x d n P size each one k lt = elim (cases_lt k n) [
  | inl below ↦
      let short : k < length xs = omega arith in
      subst (P k) (sym (get_or_append_left xs (x ∷ []) d k short)) (each k below)
  | inr above ↦
      let here : n ≡ k = omega arith in
      let at : length xs ≡ k = omega arith in
      subst (P k) (sym (get_or_push xs x d k at)) (subst (λ (j : ℕ). P j x) here one)
]
