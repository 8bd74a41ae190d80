-- The tree over the notes: what a write to a node or to a leaf changes, and how the least line is found.
use Rattle.std.proofs.Common.{◌≡◌, ◌≢◌, inl, inr, ℕ, zero, suc, ◌+◌, ◌-◌, ◌*◌, ◌/◌, ◌^◌, ◌<◌, ◌≤◌, ◌||◌, Bool, true, false}
use Rattle.std.proofs.Common.{List, length, refl, sym, ◌∙◌, ap, subst, arith, slice_set, ltb}
use Rattle.std.specs.Prelude.{slice_index, if◌then◌else◌}
use Rattle.std.proofs.Math.Nat.{pow-suc, mul-le-mul_left}
use Rattle.std.proofs.lemmas.Nat.{pow_pos}
use Rattle.std.proofs.lemmas.Bool.{lt-ltb, le-ltb, cases_lt, cases_eq, or_parts, both_ways}
use Rattle.std.proofs.lemmas.List.{length-set, get_or-set_same, get_or-set_other, get_or_past}
use Rattle.convert_queue.specs.declared.line_marks.Note.{Note}
use Rattle.convert_queue.specs.declared.line_marks.Note.TheVariants.{Clean}
use Rattle.convert_queue.specs.Notes.{note_at, node_has, has_stored, Joins, IsTree, IsTreeBut, IsLeastStored}
use Rattle.convert_queue.specs.Threads.{has}
use Rattle.convert_queue.proofs.Sets.{or_same}

-- an inner node and a leaf
pub node_inner : (notes : List Note) (tree : List ℕ) (t n : ℕ) → n < length tree → node_has notes tree t n ≡ has (slice_index tree n) t
node_inner notes tree t n lt =
    ap (λ (b : Bool). if b then has (slice_index tree n) t else has_stored t (note_at notes (n - length tree))) (lt-ltb n (length tree) lt)

pub node_leaf : (notes : List Note) (tree : List ℕ) (t n : ℕ) → length tree ≤ n → node_has notes tree t n ≡ has_stored t (note_at notes (n - length tree))
node_leaf notes tree t n le =
    ap (λ (b : Bool). if b then has (slice_index tree n) t else has_stored t (note_at notes (n - length tree))) (le-ltb n (length tree) le)

pub node_other : (notes : List Note) (tree : List ℕ) (t n i x : ℕ) → n ≢ i → node_has notes (slice_set tree i x) t n ≡ node_has notes tree t n
node_other notes tree t n i x ne =
    ap (λ (size : ℕ). if ltb n size then has (slice_index (slice_set tree i x) n) t else has_stored t (note_at notes (n - size))) (length-set tree i x)
    ∙ ap (λ (w : ℕ). if ltb n (length tree) then has w t else has_stored t (note_at notes (n - length tree))) (get_or-set_other tree i n x 0 ne)

pub node_here : (notes : List Note) (tree : List ℕ) (t i x : ℕ) → i < length tree → node_has notes (slice_set tree i x) t i ≡ has x t
node_here notes tree t i x lt =
    let below : i < length (slice_set tree i x) = omega (arith, lt, length-set tree i x) in
    node_inner notes (slice_set tree i x) t i below ∙ ap (λ (w : ℕ). has w t) (get_or-set_same tree i x 0 lt)

both_others : (notes : List Note) (tree : List ℕ) (t a b i x : ℕ) → a ≢ i → b ≢ i
    → (node_has notes (slice_set tree i x) t a || node_has notes (slice_set tree i x) t b) ≡ (node_has notes tree t a || node_has notes tree t b)
both_others notes tree t a b i x p q = or_same _ _ _ _ (node_other notes tree t a i x p) (node_other notes tree t b i x q)

-- Once a node has the threads of its children, only its parent may lack some.
pub mended : (notes : List Note) (tree : List ℕ) (i x : ℕ) → 0 < i → i < length tree → IsTreeBut notes tree i
    → ((t : ℕ) → has x t ≡ (node_has notes tree t (2 * i) || node_has notes tree t (2 * i + 1))) → IsTreeBut notes (slice_set tree i x) (i / 2)
mended notes tree i x pos lt but is t n above below ne = elim (cases_eq n i) [
  | inl e ↦ subst (λ (m : ℕ). Joins notes (slice_set tree i x) t m) (sym e)
      (node_here notes tree t i x lt ∙ is t ∙ sym (both_others notes tree t (2 * i) (2 * i + 1) i x (λ h. omega (arith, h, pos)) (λ h. omega (arith, h, pos))))
  | inr other ↦
      let low : n < length tree = omega (arith, below, length-set tree i x) in
      node_other notes tree t n i x other ∙ but t n above low other
      ∙ sym (both_others notes tree t (2 * n) (2 * n + 1) i x (λ h. ne (omega (arith, h))) (λ h. ne (omega (arith, h))))
]

pub whole : (notes : List Note) (tree : List ℕ) (i : ℕ) → i ≤ 0 → IsTreeBut notes tree i → IsTree notes tree
whole notes tree i none but t n above below = but t n above below (λ e. omega (arith, e, none, above))

-- a leaf that changes
pub leaf_other : (notes : List Note) (tree : List ℕ) (t n l : ℕ) (note : Note) → n ≢ length tree + l → node_has (slice_set notes l note) tree t n ≡ node_has notes tree t n
leaf_other notes tree t n l note ne = elim (cases_lt n (length tree)) [
  | inl lt ↦ node_inner (slice_set notes l note) tree t n lt ∙ sym (node_inner notes tree t n lt)
  | inr le ↦ node_leaf (slice_set notes l note) tree t n le
      ∙ ap (has_stored t) (get_or-set_other notes l (n - length tree) note Clean (λ e. ne (omega (arith, e, le)))) ∙ sym (node_leaf notes tree t n le)
]

pub leaf_changed : (notes : List Note) (tree : List ℕ) (l : ℕ) (note : Note) → IsTree notes tree → IsTreeBut (slice_set notes l note) tree ((length tree + l) / 2)
leaf_changed notes tree l note joins t n above below ne =
    leaf_other notes tree t n l note (λ e. omega (arith, e, below)) ∙ joins t n above below
    ∙ sym (or_same _ _ _ _ (leaf_other notes tree t (2 * n) l note (λ e. ne (omega (arith, e)))) (leaf_other notes tree t (2 * n + 1) l note (λ e. ne (omega (arith, e)))))

-- notes that tell of the same stores
pub same_stores : (notes notes' : List Note) (tree : List ℕ) → ((t l : ℕ) → has_stored t (note_at notes' l) ≡ has_stored t (note_at notes l)) → IsTree notes tree → IsTree notes' tree
same_stores notes notes' tree same joins t n above below =
    at n ∙ joins t n above below ∙ sym (or_same _ _ _ _ (at (2 * n)) (at (2 * n + 1)))
  where
    at : (m : ℕ) → node_has notes' tree t m ≡ node_has notes tree t m
    at m = elim (cases_lt m (length tree)) [
      | inl lt ↦ node_inner notes' tree t m lt ∙ sym (node_inner notes tree t m lt)
      | inr le ↦ node_leaf notes' tree t m le ∙ same t (m - length tree) ∙ sym (node_leaf notes tree t m le)
    ]

-- Below a node that lacks a thread no leaf has it.
pub none_under : (f : ℕ → Bool) (size h i : ℕ) → ((n : ℕ) → 0 < n → n < size → f n ≡ (f (2 * n) || f (2 * n + 1))) → 0 < i → (i + 1) * 2 ^ h ≤ 2 * size → f i ≡ false
    → (j : ℕ) → i * 2 ^ h ≤ j → j < (i + 1) * 2 ^ h → f j ≡ false
none_under f size zero i joins pos fit lacks j from to =
    let e : i ≡ j = omega (arith, from, to) in
    subst (λ (k : ℕ). f k ≡ false) e lacks
none_under f size (suc h) i joins pos fit lacks j from to =
    let fit' : (i + 1) * (2 ^ h * 2) ≤ 2 * size = subst (λ (q : ℕ). (i + 1) * q ≤ 2 * size) (pow-suc 2 h) fit in
    let from' : i * (2 ^ h * 2) ≤ j = subst (λ (q : ℕ). i * q ≤ j) (pow-suc 2 h) from in
    let to' : j < (i + 1) * (2 ^ h * 2) = subst (λ (q : ℕ). j < (i + 1) * q) (pow-suc 2 h) to in
    let one : 0 < 2 ^ h = pow_pos h in
    let wide : i * 1 ≤ i * 2 ^ h = mul-le-mul_left i (omega (arith, one)) in
    let below : i < size = omega (arith, fit', wide, one) in
    let parts = or_parts (f (2 * i)) (f (2 * i + 1)) (sym (joins i pos below) ∙ lacks) in
    elim (cases_lt j ((2 * i + 1) * 2 ^ h)) [
      | inl lt ↦ none_under f size h (2 * i) joins (omega (arith, pos)) (omega (arith, fit')) parts.0 j (omega (arith, from')) lt
      | inr le ↦ none_under f size h (2 * i + 1) joins (omega arith) (omega (arith, fit')) parts.1 j le (omega (arith, to'))
    ]

-- A search for the least leaf that has a thread is at node n, h levels above the leaves.
pub record Descends (f : ℕ → Bool) (size h n : ℕ) : Type 0 where
  pub above : 0 < n
  pub fit : (n + 1) * 2 ^ h ≤ 2 * size
  pub deep : size ≤ n * 2 ^ h
  pub here : f n ≡ true
  pub none : (j : ℕ) → size ≤ j → j < n * 2 ^ h → f j ≡ false

pub begins : (f : ℕ → Bool) (size h : ℕ) → size ≡ 2 ^ h → f 1 ≡ true → Descends f size h 1
begins f size h is here = record {
  above = omega arith;
  fit = omega (arith, is);
  deep = omega (arith, is);
  here = here;
  none = λ j from to. absurd (omega (arith, is, from, to));
}

pub goes_left : (f : ℕ → Bool) (size h n : ℕ) → Descends f size (suc h) n → f (2 * n) ≡ true → Descends f size h (2 * n)
goes_left f size h n d here =
    let fit' : (n + 1) * (2 ^ h * 2) ≤ 2 * size = subst (λ (q : ℕ). (n + 1) * q ≤ 2 * size) (pow-suc 2 h) d.fit in
    let deep' : size ≤ n * (2 ^ h * 2) = subst (λ (q : ℕ). size ≤ n * q) (pow-suc 2 h) d.deep in
    record {
      above = omega (arith, d.above);
      fit = omega (arith, fit');
      deep = omega (arith, deep');
      here = here;
      none = λ j from to. d.none j from (subst (λ (q : ℕ). j < n * q) (sym (pow-suc 2 h)) (omega (arith, to)));
    }

or_right_one : (a b : Bool) → a ≡ false → (a || b) ≡ true → b ≡ true
or_right_one a b lacks or = or_same false a b b (sym lacks) refl ∙ or

pub goes_right : (f : ℕ → Bool) (size h n : ℕ) → ((n : ℕ) → 0 < n → n < size → f n ≡ (f (2 * n) || f (2 * n + 1))) → Descends f size (suc h) n → f (2 * n) ≡ false
    → Descends f size h (2 * n + 1)
goes_right f size h n joins d lacks =
    let fit' : (n + 1) * (2 ^ h * 2) ≤ 2 * size = subst (λ (q : ℕ). (n + 1) * q ≤ 2 * size) (pow-suc 2 h) d.fit in
    let deep' : size ≤ n * (2 ^ h * 2) = subst (λ (q : ℕ). size ≤ n * q) (pow-suc 2 h) d.deep in
    let one : 0 < 2 ^ h = pow_pos h in
    let wide : n * 1 ≤ n * 2 ^ h = mul-le-mul_left n (omega (arith, one)) in
    let below : n < size = omega (arith, fit', wide, one) in
    record {
      above = omega arith;
      fit = omega (arith, fit');
      deep = omega (arith, deep');
      here = or_right_one (f (2 * n)) (f (2 * n + 1)) lacks (sym (joins n d.above below) ∙ d.here);
      none = λ j from to. elim (cases_lt j (2 * n * 2 ^ h)) [
        | inl lt ↦ d.none j from (subst (λ (q : ℕ). j < n * q) (sym (pow-suc 2 h)) (omega (arith, lt)))
        | inr le ↦ none_under f size h (2 * n) joins (omega (arith, d.above)) (omega (arith, fit')) lacks j le to
      ];
    }

-- at a leaf the search has found the least line
pub found : (notes : List Note) (tree : List ℕ) (t n : ℕ) → Descends (node_has notes tree t) (length tree) 0 n → IsLeastStored notes t (n - length tree)
found notes tree t n d =
    let deep : length tree ≤ n = omega (arith, d.deep) in
    record {
      here = sym (node_leaf notes tree t n deep) ∙ d.here;
      least = λ k lt stored.
          let e : k + length tree - length tree ≡ k = omega arith in
          let lacks : node_has notes tree t (k + length tree) ≡ false = d.none (k + length tree) (omega arith) (omega (arith, lt)) in
          both_ways _ lacks (node_leaf notes tree t (k + length tree) (omega arith) ∙ ap (λ (l : ℕ). has_stored t (note_at notes l)) e ∙ stored);
    }

-- where the root lacks a thread no line has it
pub none_at_all : (notes : List Note) (tree : List ℕ) (t levels : ℕ) → length tree ≡ 2 ^ levels → length notes ≤ length tree → IsTree notes tree → node_has notes tree t 1 ≡ false
    → (l : ℕ) → has_stored t (note_at notes l) ≡ true → ⊥
none_at_all notes tree t levels size fit joins lacks l stored = elim (cases_lt l (length notes)) [
  | inl lt ↦
      let e : length tree + l - length tree ≡ l = omega arith in
      both_ways _ (none_under (node_has notes tree t) (length tree) levels 1 (joins t) (omega arith) (omega (arith, size)) lacks (length tree + l) (omega (arith, size)) (omega (arith, size, lt, fit)))
      (node_leaf notes tree t (length tree + l) (omega arith) ∙ ap (λ (k : ℕ). has_stored t (note_at notes k)) e ∙ stored)
  | inr le ↦ both_ways false refl (ap (has_stored t) (sym (get_or_past notes l Clean le)) ∙ stored)
]
