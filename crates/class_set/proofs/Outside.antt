-- Numbers of no class, and classes that aren't above one.
use Rattle.std.proofs.Common.{◌≡◌, ℕ, zero, suc, ◌+◌, ◌-◌, ◌<◌, ◌≤◌, true, false, nat_eq, List, [], ◌∷◌, ◌++◌, Some, None, map}
use Rattle.std.proofs.Common.{length, slice_index_or, refl, ap, sym, ◌∙◌, arith, inl, inr}
use Rattle.std.specs.Prelude.{All, slice_get}
use Rattle.std.specs.List.{flat_map}
use Rattle.std.proofs.lemmas.Cmp.{nat_eq_equiv}
use Rattle.std.proofs.lemmas.List.{get_or_past, length-map, length-append}
use Rattle.std.proofs.lemmas.List.Elements.{All-contains, All-get_or}
use Rattle.graph_model.specs.Heaps.{has_number}
use Rattle.graph_walks.specs.Paths.{next_of, Leads, Directly, Along}
use Rattle.graph_walks.proofs.Paths.{Leads-within}
use Rattle.plain_model.specs.Classes.{ClassFacts, no_class}
use Rattle.plain_model.specs.BuiltIn.{array_class}
use Rattle.plain_model.specs.Facts.{array_at, classes_of, class_count, interfaces_from, interfaces_of, is_subclass}
use Rattle.plain_model.specs.Facts.{superclasses_from}
use Rattle.class_set.specs.Linked.{Linked}
use Rattle.class_set.specs.ArrayTypes.{array_type}
use Rattle.class_set.specs.Facts.{facts_of, named_classes}
use Rattle.class_set.specs.Lookups.{class_edges}
use Rattle.class_set.proofs.Circles.{edges_counted}
use Rattle.class_set.proofs.Edges.{edges_within}
use Rattle.class_set.proofs.Supertypes.{classes_listed}
use Rattle.class_set.proofs.Parents.{named_counted}
use Rattle.class_set.proofs.ElementTypes.{array_behind}
use Rattle.class_set.proofs.Uncircled.{above_leads, false_unless}

first_there : (classes : List ClassFacts) (m n : ℕ) (ys : List ℕ) → has_number (superclasses_from classes m n ++ ys) n ≡ true
first_there classes zero n ys = rw (nat_eq_equiv.refl n) refl
first_there classes (suc m) n ys = rw (nat_eq_equiv.refl n) refl

pub has_itself : (set : Linked) (n : ℕ) → is_subclass (facts_of set) n n ≡ true
has_itself set n = first_there (classes_of (facts_of set)) (class_count (facts_of set)) n
    (flat_map (interfaces_of (facts_of set)) (superclasses_from (classes_of (facts_of set)) (class_count (facts_of set)) n))

-- ---- past all

classes_counted : (set : Linked) → length (classes_of (facts_of set)) ≡ length set.files + 28 + length set.arrays
classes_counted set =
    let arrays = map (array_type set.files) set.arrays in
    ap length (classes_listed set)
    ∙ length-append (named_classes set.files) (map (array_class (length set.files)) arrays)
    ∙ rw (named_counted set.files, length-map arrays (array_class (length set.files)), length-map set.arrays (array_type set.files)) refl

none_past : {X : Type 0} (xs : List X) (k : ℕ) → slice_get xs k ≡ None → length xs ≤ k
none_past [] k h = omega arith
none_past (x ∷ xs) zero h = absurd (cc)
none_past (x ∷ xs) (suc k) h = omega (arith, none_past xs k h)

alone : (classes : List ClassFacts) (m n : ℕ) → slice_index_or classes n no_class ≡ no_class → superclasses_from classes m n ≡ n ∷ []
alone classes zero n h = refl
alone classes (suc m) n h = ap (λ (c : ClassFacts). n ∷ (elim c.superclass [ None ↦ [] | Some super ↦ superclasses_from classes m super ])) h

no_interfaces : (classes : List ClassFacts) (m n : ℕ) → slice_index_or classes n no_class ≡ no_class → interfaces_from classes m n ≡ []
no_interfaces classes zero n h = refl
no_interfaces classes (suc m) n h = ap (λ (c : ClassFacts). flat_map (λ i. i ∷ interfaces_from classes m i) c.interfaces) h

pub past_all : (set : Linked) (n t : ℕ) → length set.files + 28 ≤ n → array_at (facts_of set) n ≡ None → nat_eq n t ≡ false
    → is_subclass (facts_of set) n t ≡ false
past_all set n t h none differs =
    let classes = classes_of (facts_of set) in
    let past : length (map (array_type set.files) set.arrays) ≤ n - (length set.files + 28) =
    none_past (map (array_type set.files) set.arrays) (n - (length set.files + 28)) (sym (array_behind set n h) ∙ none) in
    let nothing : slice_index_or classes n no_class ≡ no_class =
    get_or_past classes n no_class (omega (arith, h, past, classes_counted set, length-map set.arrays (array_type set.files))) in
    ap (λ ns. has_number (ns ++ flat_map (interfaces_of (facts_of set)) ns) t) (alone classes (class_count (facts_of set)) n nothing)
    ∙ ap (λ ns. has_number ((n ∷ []) ++ (ns ++ [])) t) (no_interfaces classes (class_count (facts_of set)) n nothing)
    ∙ rw differs refl

-- ---- past the classes

last_within : (edges : List (List ℕ)) (v w : ℕ) → All (λ next. All (λ (u : ℕ). u < length edges) next) edges → Leads edges v w → w < length edges
last_within edges v w all (Directly a b c) =
    All-contains (λ (u : ℕ). u < length edges) (next_of edges v) w
    (All-get_or (λ next. All (λ (u : ℕ). u < length edges) next) edges v [] (Leads-within edges v w (Directly v w c)) all) c
last_within edges v w all (Along a between b c path) = last_within edges between w all path

pub none_above : (set : Linked) (n t : ℕ) → n < length set.files + 28 → length set.files + 28 ≤ t → is_subclass (facts_of set) n t ≡ false
none_above set n t l h =
    false_unless (is_subclass (facts_of set) n t) (λ e. elim (above_leads set n t l e) [
      | inl same ↦ omega (arith, l, h, same)
      | inr path ↦ omega (arith, h, last_within (class_edges set.files) n t (edges_within set.files) path, edges_counted set.files)
    ])
