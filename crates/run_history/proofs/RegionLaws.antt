-- Regions that are open, closing or at their end: which graphs may be left.
use Rattle.std.proofs.Common.{◌≡◌, ℕ, Bool, true, false, List, refl, ap, sym, ◌∙◌, ◌↔◌, ◌⊎◌, inl, inr, nat_eq, ◌&&◌, not}
use Rattle.std.proofs.Common.{if◌then◌else◌, eq-eqb}
use Rattle.std.specs.Prelude.{◌≢◌, All}
use Rattle.std.proofs.lemmas.List.Elements.{All-from_recursion}
use Rattle.graph_model.specs.declared.types.Heap.{Heap}
use Rattle.graph_model.specs.declared.types.Graph.{Graph}
use Rattle.graph_model.specs.Heaps.{has_number}
use Rattle.graph_model.specs.Canon.{canon_of}
use Rattle.run_history.specs.declared.act.Op.TheVariants as op
use Rattle.run_history.specs.Worlds.{heap_after}
use Rattle.run_history.specs.Knowing.{Fate, Sure, Open, Closing, Single, Mark, ended, each_fate, with_sure, known_after_op}
use Rattle.run_history.specs.Knowing.{after_end}
use Rattle.run_history.specs.Kept.{survives, MayRemain}
use Rattle.run_history.specs.Laws.{Past, further, known_in, marks_in, Allows, graph_left, is_open, without_open, is_closing_of}
use Rattle.run_history.specs.Laws.{with_region, without_region, IsAtItsEnd}
use Rattle.run_history.proofs.KeptLists.{Any, OfEach-any, OfEach-more, OfEach-each_fate, OfEach-weaker, no_fate, but, but-same}
use Rattle.run_history.proofs.KeptLists.{kept-with_sure, kept-each_fate, kept-filter, each_fate-agree, remains, left_by}
use Rattle.run_history.proofs.Grown.{marks-further, NotOpen, is_open_of, unless, closing_is_not_open}

-- Open regions: their stores are never kept.
survives-without_open : (regions singles : ℕ → Bool) (fate : Fate)
    → survives regions singles fate ≡ (not (is_open fate) && survives regions singles fate)
survives-without_open regions singles Sure = refl
survives-without_open regions singles (Open t) = refl
survives-without_open regions singles (Closing t) = refl
survives-without_open regions singles (Single t) = refl

graph_left-without_open : (first : Heap) (ms : List Mark) (regions singles : ℕ → Bool)
    → graph_left first (without_open ms) regions singles ≡ graph_left first ms regions singles
graph_left-without_open first ms regions singles =
    let same = survives-without_open regions singles in
    ap (λ ops. canon_of (heap_after first ops))
    (kept-filter regions singles (λ fate. not (is_open fate)) regions singles same ms)

pub open_allows : (first : Heap) (ms : List Mark) (g : Graph) → MayRemain first ms g ↔ MayRemain first (without_open ms) g
open_allows first ms g = (
  λ may.
      let (regions, singles, e) = left_by first ms g may in
      remains first (without_open ms) g regions singles (e ∙ sym (graph_left-without_open first ms regions singles)),
  λ may.
      let (regions, singles, e) = left_by first (without_open ms) g may in
      remains first ms g regions singles (e ∙ graph_left-without_open first ms regions singles),
)

-- A closing region: with its stores sure, it is as if the choice were to keep them, and without them as if to drop them.
abbrev settled : ℕ → Fate → Fate
settled t fate = if is_closing_of t fate then Sure else fate

survives-with_region : (t : ℕ) (regions singles : ℕ → Bool) (fate : Fate)
    → survives regions singles (settled t fate) ≡ survives (but t true regions) singles fate
survives-with_region t regions singles Sure = refl
survives-with_region t regions singles (Open u) = refl
survives-with_region t regions singles (Closing u) =
    let Same : Bool → Type 0 = λ b.
    survives regions singles (if b then Sure else Closing u) ≡ (if b then true else regions u) in
    elim (nat_eq u t) as (λ b. Same b) [ true ↦ refl | false ↦ refl ]
survives-with_region t regions singles (Single u) = refl

survives-without_region : (t : ℕ) (regions singles : ℕ → Bool) (fate : Fate)
    → survives (but t false regions) singles fate ≡ (not (is_closing_of t fate) && survives regions singles fate)
survives-without_region t regions singles Sure = refl
survives-without_region t regions singles (Open u) = refl
survives-without_region t regions singles (Closing u) =
    let Same : Bool → Type 0 = λ b. (if b then false else regions u) ≡ (not b && regions u) in
    elim (nat_eq u t) as (λ b. Same b) [ true ↦ refl | false ↦ refl ]
survives-without_region t regions singles (Single u) = refl

module _ (first : Heap) (ms : List Mark) (t : ℕ) (regions singles : ℕ → Bool) where
  graph_left-with_region : graph_left first (with_region t ms) regions singles
      ≡ graph_left first ms (but t true regions) singles
  graph_left-with_region =
      let same = survives-with_region t regions singles in
      ap (λ ops. canon_of (heap_after first ops))
      (kept-each_fate regions singles (settled t) (but t true regions) singles same ms)

  graph_left-without_region : graph_left first (without_region t ms) regions singles
      ≡ graph_left first ms (but t false regions) singles
  graph_left-without_region =
      let same = survives-without_region t regions singles in
      ap (λ ops. canon_of (heap_after first ops))
      (kept-filter regions singles (λ fate. not (is_closing_of t fate)) (but t false regions) singles same ms)

  whole_or_not : (g : Graph) (b : Bool) → regions t ≡ b → g ≡ graph_left first ms regions singles
      → MayRemain first (with_region t ms) g ⊎ MayRemain first (without_region t ms) g
  whole_or_not g true is e =
      let chosen = ap (λ r. graph_left first ms r singles) (sym (but-same t true regions is)) in
      inl (remains first (with_region t ms) g regions singles (e ∙ chosen ∙ sym graph_left-with_region))
  whole_or_not g false is e =
      let chosen = ap (λ r. graph_left first ms r singles) (sym (but-same t false regions is)) in
      inr (remains first (without_region t ms) g regions singles (e ∙ chosen ∙ sym graph_left-without_region))

region-remains : (first : Heap) (ms : List Mark) (t : ℕ) (g : Graph)
    → MayRemain first (with_region t ms) g ⊎ MayRemain first (without_region t ms) g → MayRemain first ms g
region-remains first ms t g (inl may) =
    let (regions, singles, e) = left_by first (with_region t ms) g may in
    remains first ms g (but t true regions) singles (e ∙ graph_left-with_region first ms t regions singles)
region-remains first ms t g (inr may) =
    let (regions, singles, e) = left_by first (without_region t ms) g may in
    remains first ms g (but t false regions) singles (e ∙ graph_left-without_region first ms t regions singles)

pub closing_allows : (first : Heap) (ms : List Mark) (t : ℕ) (g : Graph)
    → MayRemain first ms g ↔ (MayRemain first (with_region t ms) g ⊎ MayRemain first (without_region t ms) g)
closing_allows first ms t g = (
  λ may.
      let (regions, singles, e) = left_by first ms g may in
      whole_or_not first ms t regions singles g (regions t) refl e,
  region-remains first ms t g,
)

-- The end of a closing region makes its stores sure: none of them is one of an open region.
ended-settled : (t : ℕ) (fate : Fate) → NotOpen t fate → ended t fate ≡ settled t fate
ended-settled t Sure h = refl
ended-settled t (Open u) h = rw h refl
ended-settled t (Closing u) h = refl
ended-settled t (Single u) h = refl

-- after its end a thread's region has no stores
abbrev NoRegion : ℕ → Fate → Type 0
NoRegion t fate = (is_open_of t fate ≡ false) × (is_closing_of t fate ≡ false)

ended-own : (t : ℕ) (fate : Fate) → NoRegion t (ended t fate)
ended-own t Sure = (refl, refl)
ended-own t (Open u) = unless (NoRegion t) (nat_eq u t) Sure (Open u) (refl, refl) (λ e. (e, refl))
ended-own t (Closing u) = unless (NoRegion t) (nat_eq u t) Sure (Closing u) (refl, refl) (λ e. (refl, e))
ended-own t (Single u) = (refl, refl)

end_remains : (first : Heap) (ms : List Mark) (g : Graph) → MayRemain first (with_sure ms op.End) g ↔ MayRemain first ms g
end_remains first ms g = (
  λ may.
      let (regions, singles, e) = left_by first (with_sure ms op.End) g may in
      remains first ms g regions singles (e ∙ ap canon_of (kept-with_sure regions singles first ms op.End)),
  λ may.
      let (regions, singles, e) = left_by first ms g may in
      let same = sym (ap canon_of (kept-with_sure regions singles first ms op.End)) in
      remains first (with_sure ms op.End) g regions singles (e ∙ same),
)

-- the marks after thread t's last End
abbrev after_last : ℕ → List Mark → List Mark
after_last t ms = with_sure (each_fate (ended t) ms) op.End

module _ (past : Past) (t : ℕ) where
  marks-end : (at : ℕ) → IsAtItsEnd (known_in past) t → marks_in (further past t at op.End) ≡ after_last t (marks_in past)
  unfolding known_after_op
  marks-end at ends = marks-further past t at op.End ∙ ap (λ b. (after_end (known_in past) t b).marks) ends.outermost

  pub end_allows : (at : ℕ) (g : Graph) → IsAtItsEnd (known_in past) t
      → Allows (further past t at op.End) g ↔ MayRemain past.world.heap (with_region t (marks_in past)) g
  end_allows at g ends =
      let not_open = closing_is_not_open past t ends.closing in
      let sure = each_fate-agree (ended t) (settled t) (NotOpen t) (ended-settled t) (marks_in past) not_open in
      rw (marks-end at ends, sure) (end_remains past.world.heap (with_region t (marks_in past)) g)

  pub end_leaves_no_region : (at : ℕ) → IsAtItsEnd (known_in past) t
      → All (λ (m : Mark). (m.fate ≢ Open t) × (m.fate ≢ Closing t)) (marks_in (further past t at op.End))
  end_leaves_no_region at ends =
      let ms = marks_in past in
      let Apart : Fate → Type 0 = λ fate. (fate ≢ Open t) × (fate ≢ Closing t) in
      let own = OfEach-each_fate Any (NoRegion t) (ended t) (λ fate _. ended-own t fate) ms (OfEach-any ms) in
      let none = OfEach-more (NoRegion t) (each_fate (ended t) ms) Sure op.End own (refl, refl) in
      let not_open = no_fate (is_open_of t) (Open t) (eq-eqb t t refl) in
      let not_closing = no_fate (is_closing_of t) (Closing t) (eq-eqb t t refl) in
      let tells : (fate : Fate) → NoRegion t fate → Apart fate = λ fate no. (not_open fate no.0, not_closing fate no.1) in
      let apart = OfEach-weaker (NoRegion t) Apart tells (after_last t ms) none in
      rw (marks-end at ends) (All-from_recursion (λ (m : Mark). Apart m.fate) (after_last t ms) apart)

  pub closing_not_open : has_number (known_in past).closing t ≡ true → All (λ (m : Mark). m.fate ≢ Open t) (marks_in past)
  closing_not_open closing =
      let Apart : Fate → Type 0 = λ fate. fate ≢ Open t in
      let tells = no_fate (is_open_of t) (Open t) (eq-eqb t t refl) in
      let apart = OfEach-weaker (NotOpen t) Apart tells (marks_in past) (closing_is_not_open past t closing) in
      All-from_recursion (λ (m : Mark). Apart m.fate) (marks_in past) apart
