-- Texts in the order of their bytes differ.
use Rattle.std.proofs.Common.{◌≡◌, ℕ, Bool, true, false, List, [], ◌∷◌, ◌++◌, refl, ap, sym, ◌∙◌, ◌||◌, subst, Ordering, Less}
use Rattle.std.proofs.Common.{Equal, Greater}
use Rattle.std.specs.Prelude.{All}
use Rattle.std.specs.List.{AllByRecursion}
use Rattle.std.specs.List.Sorted.{IsStrictlySortedBy}
use Rattle.std.specs.Ordering.{is_eq, match_ordering, nat_cmp, ordering_reverse}
use Rattle.std.specs.Cmp.Lexicographic.{slice_cmp, nat_list_cmp_total}
use Rattle.std.specs.Str.{bytes_eq}
use Rattle.std.proofs.lemmas.Bool.{false≢true}
use Rattle.std.proofs.lemmas.List.Elements.{All-head, All-tail}
use Rattle.std.proofs.lemmas.Map.Text.{is_eq-slice_cmp}
use Rattle.std.proofs.lemmas.Map.Views.{All-insert_key}
use Rattle.std.proofs.lemmas.Slice.Eq.{bytes_eq-Decides}
use Rattle.class_links.specs.Names.{has_name}
use Rattle.text_table.specs.Sorted.{insert_text, insert_texts}
use Rattle.class_set.proofs.Numbers.{AreNew, has_name-append, not_placed}

abbrev cmp : List ℕ → List ℕ → Ordering
cmp x y = slice_cmp nat_cmp x y

abbrev pub AreOrdered : List (List ℕ) → Type 0
AreOrdered texts = IsStrictlySortedBy (slice_cmp nat_cmp) texts

abbrev IsBelow : List ℕ → List (List ℕ) → Type 0
IsBelow x texts = AllByRecursion (λ y. slice_cmp nat_cmp x y ≡ Less) texts

below-trans : (x y : List ℕ) (texts : List (List ℕ)) → cmp x y ≡ Less → IsBelow y texts → IsBelow x texts
below-trans x y [] l h = tt
below-trans x y (t ∷ ts) l h = (nat_list_cmp_total.trans x y t l h.0, below-trans x y ts l h.1)

below-insert : (x text : List ℕ) (texts : List (List ℕ)) → IsBelow x texts → cmp x text ≡ Less → IsBelow x (insert_text texts text)
below-insert x text [] h l = (l, tt)
below-insert x text (t ∷ ts) h l =
    elim (cmp text t) as (λ o. IsBelow x (match_ordering o (text ∷ t ∷ ts) (t ∷ ts) (t ∷ insert_text ts text))) [
      | Less ↦ (l, h)
      | Equal ↦ h
      | Greater ↦ (h.0, below-insert x text ts h.1 l)
    ]

reversed : (x y : List ℕ) → cmp x y ≡ Greater → cmp y x ≡ Less
reversed x y e = nat_list_cmp_total.antisymm y x ∙ ap ordering_reverse e

ordered-insert : (texts : List (List ℕ)) (text : List ℕ) → AreOrdered texts → AreOrdered (insert_text texts text)
unfolding IsStrictlySortedBy
ordered-insert [] text h = (tt, tt)
ordered-insert (t ∷ ts) text h =
    elim (cmp text t) as (λ o. cmp text t ≡ o → AreOrdered (match_ordering o (text ∷ t ∷ ts) (t ∷ ts) (t ∷ insert_text ts text))) [
      | Less ↦ λ e. ((e, below-trans text t ts e h.0), h)
      | Equal ↦ λ e. h
      | Greater ↦ λ e. (below-insert t text ts h.0 (reversed text t e), ordered-insert ts text h.1)
    ] refl

ordered-inserts : (texts others : List (List ℕ)) → AreOrdered texts → AreOrdered (insert_texts texts others)
ordered-inserts texts [] h = h
ordered-inserts texts (t ∷ ts) h = ordered-inserts (insert_text texts t) ts (ordered-insert texts t h)

pub sorted_ordered : (texts : List (List ℕ)) → AreOrdered (insert_texts [] texts)
unfolding IsStrictlySortedBy
sorted_ordered texts = ordered-inserts [] texts tt

-- ---- texts in order are new

differs : (x y : List ℕ) → cmp x y ≡ Less → bytes_eq x y ≡ false
differs x y l = sym (is_eq-slice_cmp x y) ∙ ap is_eq l

below_named : (x u : List ℕ) (texts : List (List ℕ)) → IsBelow x texts → has_name texts u ≡ true → bytes_eq x u ≡ false
below_named x u [] h e = absurd (false≢true e)
below_named x u (t ∷ ts) h e =
    elim (bytes_eq t u) as (λ b. bytes_eq t u ≡ b → (b || has_name ts u) ≡ true → bytes_eq x u ≡ false) [
      | true ↦ λ s k. subst (λ v. bytes_eq x v ≡ false) ((bytes_eq-Decides t u).0 s) (differs x t h.0)
      | false ↦ λ s k. below_named x u ts h.1 k
    ] refl e

pub ordered_new : (before texts : List (List ℕ)) → AreOrdered texts → ((t : List ℕ) → has_name texts t ≡ true → has_name before t ≡ false)
    → AreNew before texts
unfolding IsStrictlySortedBy
ordered_new before [] h apart = tt
ordered_new before (t ∷ ts) h apart = (
  not_placed before t (apart t (ap (λ b. b || has_name ts t) (itself t))),
  ordered_new (before ++ t ∷ []) ts h.1 (λ u e.
      has_name-append before (t ∷ []) u
      ∙ rw (apart u (ap (λ b. bytes_eq t u || b) e ∙ or_true (bytes_eq t u)), below_named t u ts h.0 e) refl),
)
  where
    itself : (t : List ℕ) → bytes_eq t t ≡ true
    itself t = (bytes_eq-Decides t t).1 refl

    or_true : (b : Bool) → (b || true) ≡ true
    or_true true = refl
    or_true false = refl

-- ---- what holds of each

pub All-inserted : (P : List ℕ → Type 0) (texts others : List (List ℕ)) → All P texts → All P others → All P (insert_texts texts others)
All-inserted P texts [] a b = a
All-inserted P texts (t ∷ ts) a b =
    All-inserted P (insert_text texts t) ts (All-insert_key (slice_cmp nat_cmp) t P texts a (All-head P t ts b)) (All-tail P t ts b)
