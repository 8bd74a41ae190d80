-- Notes of lines, the marks that they are, and what a store, a write and a fence make of them.
use Rattle.std.proofs.Common.{◌≡◌, ◌≢◌, inl, inr, ℕ, zero, suc, ◌+◌, ◌-◌, ◌*◌, ◌^◌, ◌<◌, ◌≤◌, ◌==◌, Bool, true, false, List, []}
use Rattle.std.proofs.Common.{◌∷◌, length, map, refl, sym, ◌∙◌, ap, subst, arith, slice_set, nat_eq, replicate}
use Rattle.std.specs.Prelude.{if◌then◌else◌}
use Rattle.std.specs.Int.{bit_at}
use Rattle.std.proofs.Math.ListN.{get_or-map}
use Rattle.std.proofs.lemmas.Bool.{eq-eqb, ne_eqb, eqb-true, cases_lt, cases_eq, both_ways}
use Rattle.std.proofs.lemmas.List.{length-set, length-map, length-replicate, map-set, get_or-set_same, get_or-set_other}
use Rattle.std.proofs.lemmas.List.{get_or-replicate, get_or_past}
use Rattle.convert_queue.specs.declared.line_marks.Note.{Note}
use Rattle.convert_queue.specs.declared.line_marks.Note.TheVariants.{Clean, Stored, Written}
use Rattle.convert_queue.specs.Marks.{Mark, clean, stored, written, mark_at, MayNote, after_write, after_fence, with_write}
use Rattle.convert_queue.specs.Marks.{with_fence, IsStored, IsWritten, IsClean}
use Rattle.convert_queue.specs.Notes.{mark_of, marks_of, note_at, has_stored, IsBefore, IsTree, IsLeastStored, AreNotes}
use Rattle.convert_queue.specs.Notes.{without_write, node_has}
use Rattle.convert_queue.specs.Threads.{has}
use Rattle.convert_queue.proofs.Sets.{has_none, has_one, or_same}
use Rattle.convert_queue.proofs.TreeLemmas.{same_stores, node_inner, node_leaf}
use Rattle.std.proofs.lemmas.Nat.Bits.{bit_at-zero}

pub mark_at_is : (fences : ℕ) (notes : List Note) (l : ℕ) → mark_at (marks_of fences notes) l ≡ mark_of fences (note_at notes l)
mark_at_is fences notes l = get_or-map (mark_of fences) notes l Clean

-- a note tells of a store where its mark does
pub stored_mark : (fences t : ℕ) (note : Note) → has_stored t note ≡ true → mark_of fences note ≡ stored t
stored_mark fences t Clean is = absurd (both_ways false refl is)
stored_mark fences t (Stored u) is = ap stored (eqb-true u t is)
stored_mark fences t (Written u before) is = absurd (both_ways false refl is)

if_not_stored : (b : Bool) (t u : ℕ) → (if b then written u else clean) ≡ stored t → ⊥
if_not_stored true t u e = cc
if_not_stored false t u e = cc

pub mark_stored : (fences t : ℕ) (note : Note) → mark_of fences note ≡ stored t → has_stored t note ≡ true
mark_stored fences t Clean is = absurd (cc)
mark_stored fences t (Stored u) is = eq-eqb u t (cc)
mark_stored fences t (Written u before) is = absurd (if_not_stored (nat_eq before fences) t u is)

pub least_is : (fences : ℕ) (notes : List Note) (t l : ℕ) → IsLeastStored notes t l
    → IsStored (marks_of fences notes) t l × (l < length (marks_of fences notes)) × ((k : ℕ) → k < l → IsStored (marks_of fences notes) t k → ⊥)
least_is fences notes t l is = (
  mark_at_is fences notes l ∙ stored_mark fences t (note_at notes l) is.here,
  elim (cases_lt l (length notes)) [
    | inl lt ↦ omega (arith, lt, length-map notes (mark_of fences))
    | inr le ↦ absurd (both_ways false refl (ap (has_stored t) (sym (get_or_past notes l Clean le)) ∙ is.here))
  ],
  λ k lt e. is.least k lt (mark_stored fences t (note_at notes k) (sym (mark_at_is fences notes k) ∙ e)),
)

pub none_is : (fences : ℕ) (notes : List Note) (t : ℕ) → ((l : ℕ) → has_stored t (note_at notes l) ≡ true → ⊥) → (l : ℕ) → IsStored (marks_of fences notes) t l → ⊥
none_is fences notes t none l e = none l (mark_stored fences t (note_at notes l) (sym (mark_at_is fences notes l) ∙ e))

-- A mark of one line is replaced.
mark_here : (marks : List Mark) (l : ℕ) (m : Mark) → l < length marks → mark_at (slice_set marks l m) l ≡ m
mark_here marks l m lt = get_or-set_same marks l m clean lt

mark_other : (marks : List Mark) (l k : ℕ) (m : Mark) → k ≢ l → mark_at (slice_set marks l m) k ≡ mark_at marks k
mark_other marks l k m ne = get_or-set_other marks l k m clean ne

may_stored : (t u : ℕ) (m : Mark) → MayNote t m → m ≡ stored u → u ≡ t
may_stored t u m may e = subst (λ (x : Mark). MayNote t x) e may

may_written : (t u : ℕ) (m : Mark) → MayNote t m → m ≡ written u → u ≡ t
may_written t u m may e = subst (λ (x : Mark). MayNote t x) e may

-- A thread that is clean after a change of a line of another thread was clean before.
pub was_clean : (marks : List Mark) (t u l : ℕ) (m : Mark) → MayNote t (mark_at marks l) → u ≢ t → IsClean (slice_set marks l m) u → IsClean marks u
was_clean marks t u l m may ne is = record {
  written = λ k e. elim (cases_eq k l) [
    | inl same ↦ ne (may_stored t u (mark_at marks l) may (subst (λ (x : ℕ). IsStored marks u x) same e))
    | inr other ↦ is.written k (mark_other marks l k m other ∙ e)
  ];
  fenced = λ k e. elim (cases_eq k l) [
    | inl same ↦ ne (may_written t u (mark_at marks l) may (subst (λ (x : ℕ). IsWritten marks u x) same e))
    | inr other ↦ is.fenced k (mark_other marks l k m other ∙ e)
  ];
}

-- the marks of notes of which one was replaced
pub marks_set : (fences : ℕ) (notes : List Note) (l : ℕ) (note : Note) → marks_of fences (slice_set notes l note) ≡ slice_set (marks_of fences notes) l (mark_of fences note)
marks_set fences notes l note = map-set (mark_of fences) notes l note

before_set : (fences : ℕ) (notes : List Note) (l : ℕ) (note : Note) → l < length notes → IsBefore fences note → ((k : ℕ) → IsBefore fences (note_at notes k))
    → (k : ℕ) → IsBefore fences (note_at (slice_set notes l note) k)
before_set fences notes l note lt here before k = elim (cases_eq k l) [
  | inl same ↦ subst (λ (x : Note). IsBefore fences x) (sym (ap (note_at (slice_set notes l note)) same ∙ get_or-set_same notes l note Clean lt)) here
  | inr other ↦ subst (λ (x : Note). IsBefore fences x) (sym (get_or-set_other notes l k note Clean other)) (before k)
]

pub is_written_now : (fences t : ℕ) → mark_of fences (Written t fences) ≡ written t
is_written_now fences t = ap (λ (b : Bool). if b then written t else clean) (eq-eqb fences fences refl)

pub notes_stored : (notes : List Note) (tree tree' : List ℕ) (levels fences unfenced t l : ℕ) → AreNotes notes tree levels fences unfenced → l < length notes
    → MayNote t (mark_at (marks_of fences notes) l) → length tree' ≡ length tree → IsTree (slice_set notes l (Stored t)) tree'
    → AreNotes (slice_set notes l (Stored t)) tree' levels fences unfenced
notes_stored notes tree tree' levels fences unfenced t l a lt may long joins = record {
  size = long ∙ a.size;
  few = a.few;
  fit = omega (arith, a.fit, long, length-set notes l (Stored t));
  joins = joins;
  before = before_set fences notes l (Stored t) lt tt a.before;
  waits = λ u k e. elim (cases_eq k l) [
    | inl same ↦ absurd (not_both t u (sym here ∙ subst (λ (x : ℕ). mark_at marks' x ≡ written u) same (sym (ap (λ (ms : List Mark). mark_at ms k) is) ∙ e)))
    | inr other ↦ a.waits u k (sym (mark_other (marks_of fences notes) l k (stored t) other) ∙ sym (ap (λ (ms : List Mark). mark_at ms k) is) ∙ e)
  ];
  none_waits = λ u c. elim (cases_eq u t) [
    | inl same ↦ absurd (c.written l (ap (λ (ms : List Mark). mark_at ms l) is ∙ here ∙ ap stored (sym same)))
    | inr other ↦ a.none_waits u (was_clean (marks_of fences notes) t u l (stored t) may other (subst (λ (ms : List Mark). IsClean ms u) is c))
  ];
}
  where
    marks' : List Mark
    marks' = slice_set (marks_of fences notes) l (stored t)

    is : marks_of fences (slice_set notes l (Stored t)) ≡ slice_set (marks_of fences notes) l (stored t)
    is = marks_set fences notes l (Stored t)

    here : mark_at (slice_set (marks_of fences notes) l (stored t)) l ≡ stored t
    here = mark_here (marks_of fences notes) l (stored t) (omega (arith, lt, length-map notes (mark_of fences)))

    not_both : (t u : ℕ) → stored t ≡ written u → ⊥
    not_both t u e = cc

pub notes_written : (notes : List Note) (tree tree' : List ℕ) (levels fences unfenced unfenced' t l : ℕ) → AreNotes notes tree levels fences unfenced → l < length notes
    → MayNote t (mark_at (marks_of fences notes) l) → length tree' ≡ length tree → IsTree (slice_set notes l (Written t fences)) tree'
    → bit_at unfenced' t ≡ 1 → ((u : ℕ) → u ≢ t → bit_at unfenced' u ≡ bit_at unfenced u)
    → AreNotes (slice_set notes l (Written t fences)) tree' levels fences unfenced'
notes_written notes tree tree' levels fences unfenced unfenced' t l a lt may long joins mine others = record {
  size = long ∙ a.size;
  few = a.few;
  fit = omega (arith, a.fit, long, length-set notes l (Written t fences));
  joins = joins;
  before = before_set fences notes l (Written t fences) lt (omega arith) a.before;
  waits = λ u k e. elim (cases_eq u t) [
    | inl me ↦ subst (λ (x : ℕ). has unfenced' x ≡ true) (sym me) (has_one (bit_at unfenced' t) mine)
    | inr other ↦ ap (λ (x : ℕ). x == 1) (others u other) ∙ elim (cases_eq k l) [
      | inl same ↦ absurd (other (same_written t u (sym here ∙ subst (λ (x : ℕ). mark_at marks' x ≡ written u) same (sym (ap (λ (ms : List Mark). mark_at ms k) is) ∙ e))))
      | inr elsewhere ↦ a.waits u k (sym (mark_other (marks_of fences notes) l k (written t) elsewhere) ∙ sym (ap (λ (ms : List Mark). mark_at ms k) is) ∙ e)
    ]
  ];
  none_waits = λ u c. elim (cases_eq u t) [
    | inl same ↦ absurd (c.fenced l (ap (λ (ms : List Mark). mark_at ms l) is ∙ here ∙ ap written (sym same)))
    | inr other ↦ ap (λ (x : ℕ). x == 1) (others u other)
        ∙ a.none_waits u (was_clean (marks_of fences notes) t u l (written t) may other (subst (λ (ms : List Mark). IsClean ms u) is c))
  ];
}
  where
    marks' : List Mark
    marks' = slice_set (marks_of fences notes) l (written t)

    is : marks_of fences (slice_set notes l (Written t fences)) ≡ slice_set (marks_of fences notes) l (written t)
    is = marks_set fences notes l (Written t fences) ∙ ap (λ (m : Mark). slice_set (marks_of fences notes) l m) (is_written_now fences t)

    here : mark_at (slice_set (marks_of fences notes) l (written t)) l ≡ written t
    here = mark_here (marks_of fences notes) l (written t) (omega (arith, lt, length-map notes (mark_of fences)))

    same_written : (t u : ℕ) → written t ≡ written u → u ≡ t
    same_written t u e = cc

-- what the view is after a write
pub written_view : (notes : List Note) (fences t u l : ℕ) → note_at notes l ≡ Stored u → MayNote t (mark_at (marks_of fences notes) l)
    → marks_of fences (slice_set notes l (Written t fences)) ≡ with_write (marks_of fences notes) l
written_view notes fences t u l note may =
    let mark : mark_at (marks_of fences notes) l ≡ stored u = mark_at_is fences notes l ∙ ap (mark_of fences) note in
    let me : u ≡ t = may_stored t u _ may mark in
    marks_set fences notes l (Written t fences)
    ∙ ap (λ (m : Mark). slice_set (marks_of fences notes) l m) (is_written_now fences t ∙ ap written (sym me) ∙ sym (ap after_write mark))

-- A fence: writes before it are over.
fence_if : (b : Bool) (t : ℕ) → after_fence (if b then written t else clean) ≡ clean
fence_if true t = refl
fence_if false t = refl

fenced_mark : (fences : ℕ) (note : Note) → IsBefore fences note → mark_of (fences + 1) note ≡ after_fence (mark_of fences note)
fenced_mark fences Clean before = refl
fenced_mark fences (Stored t) before = refl
fenced_mark fences (Written t at) before =
    ap (λ (b : Bool). if b then written t else clean) (ne_eqb at (fences + 1) (λ e. omega (arith, e, before))) ∙ sym (fence_if (nat_eq at fences) t)

forgotten_mark : (fences : ℕ) (note : Note) → mark_of 0 (without_write note) ≡ after_fence (mark_of fences note)
forgotten_mark fences Clean = refl
forgotten_mark fences (Stored t) = refl
forgotten_mark fences (Written t at) = sym (fence_if (nat_eq at fences) t)

cons_same : {A : Type 0} (x y : A) (xs ys : List A) → x ≡ y → xs ≡ ys → x ∷ xs ≡ y ∷ ys
cons_same x y xs ys e f = ap (λ b. b ∷ xs) e ∙ ap (λ bs. y ∷ bs) f

pub fenced_view : (fences : ℕ) (notes : List Note) → ((l : ℕ) → IsBefore fences (note_at notes l)) → marks_of (fences + 1) notes ≡ with_fence (marks_of fences notes)
fenced_view fences [] before = refl
fenced_view fences (note ∷ notes) before =
    cons_same (mark_of (fences + 1) note) (after_fence (mark_of fences note)) (marks_of (fences + 1) notes) (with_fence (marks_of fences notes))
    (fenced_mark fences note (before 0)) (fenced_view fences notes (λ l. before (suc l)))

pub forgotten_view : (fences : ℕ) (notes : List Note) → marks_of 0 (map without_write notes) ≡ with_fence (marks_of fences notes)
forgotten_view fences [] = refl
forgotten_view fences (note ∷ notes) =
    cons_same (mark_of 0 (without_write note)) (after_fence (mark_of fences note)) (marks_of 0 (map without_write notes)) (with_fence (marks_of fences notes))
    (forgotten_mark fences note) (forgotten_view fences notes)

none_written : (m : Mark) (t : ℕ) → after_fence m ≡ written t → ⊥
none_written clean t e = cc
none_written (stored u) t e = cc
none_written (written u) t e = cc

pub no_waits : (marks : List Mark) (t l : ℕ) → IsWritten (with_fence marks) t l → ⊥
no_waits marks t l e = none_written (mark_at marks l) t (sym (get_or-map after_fence marks l clean) ∙ e)

before_more : (fences : ℕ) (note : Note) → IsBefore fences note → IsBefore (fences + 1) note
before_more fences Clean b = tt
before_more fences (Stored t) b = tt
before_more fences (Written t at) b = omega (arith, b)

before_none : (note : Note) → IsBefore 0 (without_write note)
before_none Clean = tt
before_none (Stored t) = tt
before_none (Written t at) = tt

stores_stay : (t : ℕ) (note : Note) → has_stored t (without_write note) ≡ has_stored t note
stores_stay t Clean = refl
stores_stay t (Stored u) = refl
stores_stay t (Written u at) = refl

none_in_zero : (t : ℕ) → has 0 t ≡ false
none_in_zero t = has_none (bit_at 0 t) (bit_at-zero t)

pub notes_fenced : (notes : List Note) (tree : List ℕ) (levels fences unfenced : ℕ) → AreNotes notes tree levels fences unfenced → AreNotes notes tree levels (fences + 1) 0
notes_fenced notes tree levels fences unfenced a = record {
  size = a.size;
  few = a.few;
  fit = a.fit;
  joins = a.joins;
  before = λ l. before_more fences (note_at notes l) (a.before l);
  waits = λ t l e. absurd (no_waits (marks_of fences notes) t l (subst (λ (ms : List Mark). IsWritten ms t l) (fenced_view fences notes a.before) e));
  none_waits = λ t _. none_in_zero t;
}

pub notes_forgotten : (notes : List Note) (tree : List ℕ) (levels fences unfenced : ℕ) → AreNotes notes tree levels fences unfenced
    → AreNotes (map without_write notes) tree levels 0 0
notes_forgotten notes tree levels fences unfenced a = record {
  size = a.size;
  few = a.few;
  fit = omega (arith, a.fit, length-map notes without_write);
  joins = same_stores notes (map without_write notes) tree (λ t l. ap (has_stored t) (at l) ∙ stores_stay t (note_at notes l)) a.joins;
  before = λ l. subst (λ (x : Note). IsBefore 0 x) (sym (at l)) (before_none (note_at notes l));
  waits = λ t l e. absurd (no_waits (marks_of fences notes) t l (subst (λ (ms : List Mark). IsWritten ms t l) (forgotten_view fences notes) e));
  none_waits = λ t _. none_in_zero t;
}
  where
    at : (l : ℕ) → note_at (map without_write notes) l ≡ without_write (note_at notes l)
    at l = get_or-map without_write notes l Clean

-- at the beginning all lines are clean
pub map_replicate : (n fences : ℕ) → marks_of fences (replicate n Clean) ≡ replicate n clean
map_replicate zero fences = refl
map_replicate (suc n) fences = cons_same clean clean (marks_of fences (replicate n Clean)) (replicate n clean) refl (map_replicate n fences)

all_clean : (n l : ℕ) → note_at (replicate n Clean) l ≡ Clean
all_clean n l = elim (cases_lt l n) [
  | inl lt ↦ get_or-replicate n l Clean Clean lt
  | inr le ↦ get_or_past (replicate n Clean) l Clean (omega (arith, le, length-replicate n Clean))
]

pub notes_begin : (n : ℕ) (tree : List ℕ) (levels : ℕ) → length tree ≡ 2 ^ levels → levels ≤ 32 → n ≤ 2 ^ levels → IsTree (replicate n Clean) tree
    → AreNotes (replicate n Clean) tree levels 0 0
notes_begin n tree levels size few fit joins = record {
  size = size;
  few = few;
  fit = omega (arith, size, fit, length-replicate n Clean);
  joins = joins;
  before = λ l. subst (λ (x : Note). IsBefore 0 x) (sym (all_clean n l)) tt;
  waits = λ t l e. absurd (never t (sym (mark_at_is 0 (replicate n Clean) l ∙ ap (mark_of 0) (all_clean n l)) ∙ e));
  none_waits = λ t _. none_in_zero t;
}
  where
    never : (t : ℕ) → clean ≡ written t → ⊥
    never t e = cc

pub clean_is : (notes : List Note) (tree : List ℕ) (levels fences unfenced t : ℕ) → AreNotes notes tree levels fences unfenced
    → ((l : ℕ) → IsStored (marks_of fences notes) t l → ⊥) → has unfenced t ≡ false → IsClean (marks_of fences notes) t
clean_is notes tree levels fences unfenced t a none fenced = record {
  written = none;
  fenced = λ l e. both_ways (has unfenced t) fenced (a.waits t l e);
}

-- an empty tree
abbrev pub zeros : ℕ → List ℕ
zeros n = replicate n 0

pub length-zeros : (n : ℕ) → length (zeros n) ≡ n
length-zeros n = length-replicate {A = ℕ} n 0

none_in_nodes : (n size t m : ℕ) → node_has (replicate n Clean) (zeros size) t m ≡ false
none_in_nodes n size t m = elim (cases_lt m (length (zeros size))) [
  | inl lt ↦ node_inner (replicate n Clean) (zeros size) t m lt
      ∙ ap (λ (w : ℕ). has w t) (get_or-replicate {A = ℕ} size m 0 0 (omega (arith, lt, length-zeros size))) ∙ none_in_zero t
  | inr le ↦ node_leaf (replicate n Clean) (zeros size) t m le ∙ ap (has_stored t) (all_clean n (m - length (zeros size)))
]

pub empty_tree : (n size : ℕ) → IsTree (replicate n Clean) (zeros size)
empty_tree n size t m above below =
    none_in_nodes n size t m ∙ sym (or_same _ false _ false (none_in_nodes n size t (2 * m)) (none_in_nodes n size t (2 * m + 1)))
