-- Texts in order: which there are, and that they are a list of different ones.
use Rattle.std.proofs.Common.{◌≡◌, ◌⊎◌, inl, inr, ⊎_elim, ℕ, false, List, [], ◌∷◌, ◌++◌, refl, sym, ◌∙◌, ap, subst, Less, Equal}
use Rattle.std.proofs.Common.{Greater}
use Rattle.std.specs.Prelude.{Contains}
use Rattle.std.specs.Ordering.{is_eq, match_ordering, nat_cmp}
use Rattle.std.specs.Cmp.Lexicographic.{slice_cmp}
use Rattle.std.proofs.lemmas.Map.Text.{is_eq-slice_cmp}
use Rattle.std.proofs.lemmas.Slice.Eq.{bytes_eq-Decides}
use Rattle.graph_walks.proofs.Lists.{Contains-cons_cases, Contains-head, Contains-nil, Contains-tail}
use Rattle.text_table.specs.Sorted.{insert_text, insert_texts, sorted_texts}
use Rattle.text_table.specs.Texts.{with_texts}
use Rattle.class_set.proofs.Numbers.{with_texts-new}
use Rattle.class_set.proofs.Ordered.{ordered_new, sorted_ordered}
use Rattle.directories.specs.ClassSets.{AreInOrder}

-- ---- one text more

same_text : (text t : List ℕ) → slice_cmp nat_cmp text t ≡ Equal → text ≡ t
same_text text t e = (bytes_eq-Decides text t).0 (sym (is_eq-slice_cmp text t) ∙ ap is_eq e)

has_new : (texts : List (List ℕ)) (text : List ℕ) → Contains (insert_text texts text) text
has_new [] text = Contains-head text []
has_new (t ∷ ts) text =
    elim (slice_cmp nat_cmp text t) as (λ o. slice_cmp nat_cmp text t ≡ o
    → Contains (match_ordering o (text ∷ t ∷ ts) (t ∷ ts) (t ∷ insert_text ts text)) text) [
      | Less ↦ λ e. Contains-head text (t ∷ ts)
      | Equal ↦ λ e. subst (λ (u : List ℕ). Contains (t ∷ ts) u) (sym (same_text text t e)) (Contains-head t ts)
      | Greater ↦ λ e. Contains-tail t (insert_text ts text) text (has_new ts text)
    ] refl

keeps : (texts : List (List ℕ)) (text other : List ℕ) → Contains texts other → Contains (insert_text texts text) other
keeps [] text other there = Contains-tail text [] other there
keeps (t ∷ ts) text other there =
    elim (slice_cmp nat_cmp text t) as (λ o. Contains (match_ordering o (text ∷ t ∷ ts) (t ∷ ts) (t ∷ insert_text ts text)) other) [
      | Less ↦ Contains-tail text (t ∷ ts) other there
      | Equal ↦ there
      | Greater ↦ ⊎_elim
          (λ (here : t ≡ other). subst (λ (u : List ℕ). Contains (t ∷ insert_text ts text) u) here (Contains-head t (insert_text ts text)))
          (λ (later : Contains ts other). Contains-tail t (insert_text ts text) other (keeps ts text other later))
          (Contains-cons_cases t ts other there)
    ]

from_one : (texts : List (List ℕ)) (text other : List ℕ) → Contains (insert_text texts text) other → (text ≡ other) ⊎ Contains texts other
from_one [] text other there = Contains-cons_cases text [] other there
from_one (t ∷ ts) text other there =
    elim (slice_cmp nat_cmp text t) as (λ o. Contains (match_ordering o (text ∷ t ∷ ts) (t ∷ ts) (t ∷ insert_text ts text)) other
    → (text ≡ other) ⊎ Contains (t ∷ ts) other) [
      | Less ↦ λ one. Contains-cons_cases text (t ∷ ts) other one
      | Equal ↦ λ one. inr one
      | Greater ↦ λ one. ⊎_elim
          (λ (here : t ≡ other). inr (subst (λ (u : List ℕ). Contains (t ∷ ts) u) here (Contains-head t ts)))
          (λ (later : Contains (insert_text ts text) other). ⊎_elim
          (λ (new : text ≡ other). inl new)
          (λ (old : Contains ts other). inr (Contains-tail t ts other old))
          (from_one ts text other later))
          (Contains-cons_cases t (insert_text ts text) other one)
    ] there

-- ---- all of them

keeps_all : (texts others : List (List ℕ)) (name : List ℕ) → Contains texts name → Contains (insert_texts texts others) name
keeps_all texts [] name there = there
keeps_all texts (t ∷ ts) name there = keeps_all (insert_text texts t) ts name (keeps texts t name there)

has_all : (texts others : List (List ℕ)) (name : List ℕ) → Contains others name → Contains (insert_texts texts others) name
has_all texts [] name there = absurd (Contains-nil name there)
has_all texts (t ∷ ts) name there = ⊎_elim
    (λ (here : t ≡ name). keeps_all (insert_text texts t) ts name
    (subst (λ (u : List ℕ). Contains (insert_text texts t) u) here (has_new texts t)))
    (λ (later : Contains ts name). has_all (insert_text texts t) ts name later)
    (Contains-cons_cases t ts name there)

from_all : (texts others : List (List ℕ)) (name : List ℕ) → Contains (insert_texts texts others) name
    → Contains others name ⊎ Contains texts name
from_all texts [] name there = inr there
from_all texts (t ∷ ts) name there = ⊎_elim
    (λ (later : Contains ts name). inl (Contains-tail t ts name later))
    (λ (one : Contains (insert_text texts t) name). ⊎_elim
    (λ (new : t ≡ name). inl (subst (λ (u : List ℕ). Contains (t ∷ ts) u) new (Contains-head t ts)))
    (λ (old : Contains texts name). inr old)
    (from_one texts t name one))
    (from_all (insert_text texts t) ts name there)

pub sorted_has : (texts : List (List ℕ)) (name : List ℕ) → Contains texts name → Contains (sorted_texts texts) name
sorted_has texts name there = has_all [] texts name there

pub sorted_from : (texts : List (List ℕ)) (name : List ℕ) → Contains (sorted_texts texts) name → Contains texts name
sorted_from texts name there = ⊎_elim
    (λ (is : Contains texts name). is)
    (λ (none : Contains [] name). absurd (Contains-nil name none))
    (from_all [] texts name there)

pub sorted_in_order : (texts : List (List ℕ)) → AreInOrder (sorted_texts texts)
sorted_in_order texts = sorted_ordered texts

-- they are added to a list one after another
pub listed_all : (texts : List (List ℕ)) → AreInOrder texts → with_texts [] texts ≡ texts
listed_all texts order = with_texts-new [] texts (ordered_new [] texts order (λ t there. refl))

-- one more behind
pub inserted_last : (texts others : List (List ℕ)) (last : List ℕ)
    → insert_texts texts (others ++ last ∷ []) ≡ insert_text (insert_texts texts others) last
inserted_last texts [] last = refl
inserted_last texts (t ∷ ts) last = inserted_last (insert_text texts t) ts last
