-- A single store and its fence: which graphs may be left.
use Rattle.std.proofs.Common.{◌≡◌, ℕ, Bool, true, false, List, [], ◌∷◌, ◌++◌, refl, ap, sym, ◌∙◌, ◌↔◌, ◌⊎◌, inl, inr, nat_eq}
use Rattle.std.proofs.Common.{if◌then◌else◌, eq-eqb}
use Rattle.std.specs.Prelude.{◌≢◌, All}
use Rattle.std.proofs.lemmas.List.Elements.{All-from_recursion}
use Rattle.ap_base.specs.declared.place.Place.{Place}
use Rattle.graph_model.specs.declared.types.Value.{Value}
use Rattle.graph_model.specs.declared.types.Heap.{Heap}
use Rattle.graph_model.specs.declared.types.Graph.{Graph}
use Rattle.graph_model.specs.Canon.{canon_of}
use Rattle.run_history.specs.declared.act.Op.{Op}
use Rattle.run_history.specs.declared.act.Op.TheVariants as op
use Rattle.run_history.specs.Worlds.{heap_after_op, heap_after}
use Rattle.run_history.specs.Knowing.{Fate, Sure, Open, Closing, Single, Mark, fenced, each_fate, with_sure, known_after_op}
use Rattle.run_history.specs.Kept.{survives, kept, MayRemain, MayRemainWith}
use Rattle.run_history.specs.Laws.{Past, further, known_in, marks_in, Allows, AllowsWith, graph_left, IsSingleStore}
use Rattle.run_history.specs.Laws.{LeftWithSingle}
use Rattle.run_history.proofs.KeptLists.{OfEach, Any, OfEach-any, OfEach-more, OfEach-each_fate, OfEach-weaker, no_fate, but}
use Rattle.run_history.proofs.KeptLists.{but-own, but-same, heap_after-append, kept-append, kept-with_sure, kept-agree}
use Rattle.run_history.proofs.KeptLists.{kept-each_fate, remains, left_by, remains_with, left_with}
use Rattle.run_history.proofs.Grown.{marks-further, NoSingle, is_single_of, fenced-own, owes_for_singles}

abbrev single : ℕ → Op → Mark
single t o = record { fate = Single t; op = o }

-- the choice about a thread's single store matters to no other mark
survives-but_single : (t : ℕ) (b : Bool) (regions singles : ℕ → Bool) (fate : Fate)
    → NoSingle t fate → survives regions (but t b singles) fate ≡ survives regions singles fate
survives-but_single t b regions singles Sure none = refl
survives-but_single t b regions singles (Open u) none = refl
survives-but_single t b regions singles (Closing u) none = refl
survives-but_single t b regions singles (Single u) none = rw none refl

-- once it is fenced, the store is kept as if it had been chosen
survives-fenced : (t : ℕ) (regions singles : ℕ → Bool) (fate : Fate)
    → survives regions singles (fenced t fate) ≡ survives regions (but t true singles) fate
survives-fenced t regions singles Sure = refl
survives-fenced t regions singles (Open u) = refl
survives-fenced t regions singles (Closing u) = refl
survives-fenced t regions singles (Single u) =
    let Same : Bool → Type 0 = λ b.
    survives regions singles (if b then Sure else Single u) ≡ (if b then true else singles u) in
    elim (nat_eq u t) as (λ b. Same b) [ true ↦ refl | false ↦ refl ]

-- the heap with the operation, or without it
abbrev heap_where : Heap → Op → Bool → Heap
heap_where heap o b = if b then heap_after_op heap o else heap

heap_where-is : (heap : Heap) (o : Op) (b : Bool) → heap_after heap (if b then o ∷ [] else []) ≡ heap_where heap o b
heap_where-is heap o true = refl
heap_where-is heap o false = refl

module _ (first : Heap) (ms : List Mark) (t : ℕ) (o : Op) where
  -- the heap after a kept list, where the last store is a single one
  heap_after-single : (regions singles : ℕ → Bool) (b : Bool) → singles t ≡ b
      → heap_after first (kept regions singles (ms ++ single t o ∷ []))
      ≡ heap_where (heap_after first (kept regions singles ms)) o b
  heap_after-single regions singles b is =
      let before = kept regions singles ms in
      ap (heap_after first) (kept-append regions singles ms (single t o ∷ []))
      ∙ heap_after-append first before (kept regions singles (single t o ∷ []))
      ∙ ap (λ c. heap_after (heap_after first before) (if c then o ∷ [] else [])) is
      ∙ heap_where-is (heap_after first before) o b

  -- where no other store of the thread is single, its choice is free
  heap_after-chosen : OfEach (NoSingle t) ms → (regions singles : ℕ → Bool) (b : Bool)
      → heap_after first (kept regions (but t b singles) (ms ++ single t o ∷ []))
      ≡ heap_where (heap_after first (kept regions singles ms)) o b
  heap_after-chosen none regions singles b =
      let others = survives-but_single t b regions singles in
      heap_after-single regions (but t b singles) b (but-own t b singles)
      ∙ ap (λ ops. heap_where (heap_after first ops) o b)
      (kept-agree regions (but t b singles) regions singles (NoSingle t) others ms none)

  single-cases : (g : Graph) (regions singles : ℕ → Bool) (b : Bool)
      → g ≡ canon_of (heap_where (heap_after first (kept regions singles ms)) o b)
      → MayRemain first ms g ⊎ MayRemainWith first ms o g
  single-cases g regions singles true e = inr (remains_with first ms o g regions singles e)
  single-cases g regions singles false e = inl (remains first ms g regions singles e)

  single-remains : (g : Graph)
      → MayRemain first (ms ++ single t o ∷ []) g → MayRemain first ms g ⊎ MayRemainWith first ms o g
  single-remains g may =
      let (regions, singles, e) = left_by first (ms ++ single t o ∷ []) g may in
      single-cases g regions singles (singles t)
      (e ∙ ap canon_of (heap_after-single regions singles (singles t) refl))

  remains-single : (g : Graph) → OfEach (NoSingle t) ms
      → MayRemain first ms g ⊎ MayRemainWith first ms o g → MayRemain first (ms ++ single t o ∷ []) g
  remains-single g none (inl may) =
      let (regions, singles, e) = left_by first ms g may in
      remains first (ms ++ single t o ∷ []) g regions (but t false singles)
      (e ∙ ap canon_of (sym (heap_after-chosen none regions singles false)))
  remains-single g none (inr may) =
      let (regions, singles, e) = left_with first ms o g may in
      remains first (ms ++ single t o ∷ []) g regions (but t true singles)
      (e ∙ ap canon_of (sym (heap_after-chosen none regions singles true)))

-- a graph that is left where the single stores of thread t are kept
abbrev KeepsSingle : Heap → List Mark → ℕ → Graph → Type 0
KeepsSingle first ms t g = (regions singles : ℕ → Bool) × (singles t ≡ true) × (g ≡ graph_left first ms regions singles)

-- the marks after a fence of thread t
abbrev after_fence : ℕ → List Mark → List Mark
after_fence t ms = with_sure (each_fate (fenced t) ms) op.Fenced

graph_left-fenced : (first : Heap) (ms : List Mark) (t : ℕ) (regions singles : ℕ → Bool)
    → graph_left first (after_fence t ms) regions singles ≡ graph_left first ms regions (but t true singles)
graph_left-fenced first ms t regions singles =
    ap canon_of (kept-with_sure regions singles first (each_fate (fenced t) ms) op.Fenced)
    ∙ ap (λ ops. canon_of (heap_after first ops))
    (kept-each_fate regions singles (fenced t) regions (but t true singles) (survives-fenced t regions singles) ms)

fence-keeps : (first : Heap) (ms : List Mark) (t : ℕ) (g : Graph)
    → MayRemain first (after_fence t ms) g ↔ KeepsSingle first ms t g
fence-keeps first ms t g = (
  λ may.
      let (regions, singles, e) = left_by first (after_fence t ms) g may in
      (regions, but t true singles, but-own t true singles, e ∙ graph_left-fenced first ms t regions singles),
  λ (regions, singles, keeps, e).
      let chosen = ap (graph_left first ms regions) (sym (but-same t true singles keeps)) in
      remains first (after_fence t ms) g regions singles (e ∙ chosen ∙ sym (graph_left-fenced first ms t regions singles)),
)

-- where the last store is the thread's only single one, keeping it means that it is there
keeps-only_single : (first : Heap) (ms : List Mark) (t : ℕ) (o : Op) (g : Graph) → OfEach (NoSingle t) ms
    → KeepsSingle first (ms ++ single t o ∷ []) t g ↔ MayRemainWith first ms o g
keeps-only_single first ms t o g none = (
  λ (regions, singles, keeps, e).
      let there = heap_after-single first ms t o regions singles true keeps in
      remains_with first ms o g regions singles (e ∙ ap canon_of there),
  λ may.
      let (regions, singles, e) = left_with first ms o g may in
      let there = heap_after-chosen first ms t o none regions singles true in
      (regions, but t true singles, but-own t true singles, e ∙ ap canon_of (sym there)),
)

marks-fenced : (past : Past) (t at : ℕ) → marks_in (further past t at op.Fenced) ≡ after_fence t (marks_in past)
unfolding known_after_op
marks-fenced past t at = marks-further past t at op.Fenced

marks-stored : (past : Past) (t at : ℕ) (place : Place) (value : Value) → IsSingleStore (known_in past) t place
    → marks_in (further past t at (op.Stored place value)) ≡ marks_in past ++ single t (op.Stored place value) ∷ []
unfolding known_after_op
marks-stored past t at place value is_single =
    marks-further past t at (op.Stored place value)
    ∙ ap (λ fate. marks_in past ++ record { fate = fate; op = op.Stored place value } ∷ []) is_single.fate

pub fence_allows : (past : Past) (t at : ℕ) (g : Graph) → Allows (further past t at op.Fenced) g ↔ LeftWithSingle past t g
fence_allows past t at g = rw (marks-fenced past t at) (fence-keeps past.world.heap (marks_in past) t g)

pub fence_leaves_no_single : (past : Past) (t at : ℕ)
    → All (λ (m : Mark). m.fate ≢ Single t) (marks_in (further past t at op.Fenced))
fence_leaves_no_single past t at =
    let ms = marks_in past in
    let Apart : Fate → Type 0 = λ fate. fate ≢ Single t in
    let own = OfEach-each_fate Any (NoSingle t) (fenced t) (λ fate _. fenced-own t fate) ms (OfEach-any ms) in
    let none = OfEach-more (NoSingle t) (each_fate (fenced t) ms) Sure op.Fenced own refl in
    let tells = no_fate (is_single_of t) (Single t) (eq-eqb t t refl) in
    let apart = OfEach-weaker (NoSingle t) Apart tells (after_fence t ms) none in
    rw (marks-fenced past t at) (All-from_recursion (λ (m : Mark). Apart m.fate) (after_fence t ms) apart)

pub store_allows : (past : Past) (t at : ℕ) (place : Place) (value : Value) (g : Graph)
    → IsSingleStore (known_in past) t place
    → Allows (further past t at (op.Stored place value)) g ↔ (Allows past g ⊎ AllowsWith past (op.Stored place value) g)
store_allows past t at place value g is_single =
    let none = owes_for_singles past t is_single.owes_none in
    rw (marks-stored past t at place value is_single) (
      single-remains past.world.heap (marks_in past) t (op.Stored place value) g,
      remains-single past.world.heap (marks_in past) t (op.Stored place value) g none,
    )

pub fenced_store_allows : (past : Past) (t at later : ℕ) (place : Place) (value : Value) (g : Graph)
    → IsSingleStore (known_in past) t place
    → Allows (further (further past t at (op.Stored place value)) t later op.Fenced) g
    ↔ AllowsWith past (op.Stored place value) g
fenced_store_allows past t at later place value g is_single =
    let o = op.Stored place value in
    let none = owes_for_singles past t is_single.owes_none in
    let there = keeps-only_single past.world.heap (marks_in past) t o g none in
    let kept_one : Allows (further (further past t at o) t later op.Fenced) g
    ↔ KeepsSingle past.world.heap (marks_in past ++ single t o ∷ []) t g
    = rw (← marks-stored past t at place value is_single) (fence_allows (further past t at o) t later g) in
    (λ allowed. there.0 (kept_one.0 allowed), λ may. kept_one.1 (there.1 may))
