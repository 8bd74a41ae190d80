-- No class above another is its subclass.
use Rattle.std.proofs.Common.{◌≡◌, ℕ, zero, suc, ◌+◌, ◌<◌, Bool, true, false, nat_eq, List, [], ◌∷◌, map, length}
use Rattle.std.proofs.Common.{slice_index_or, refl, ap, sym, ◌∙◌, arith, subst, ◌⊎◌, inl, inr, ◌||◌}
use Rattle.std.specs.Prelude.{All, Contains}
use Rattle.std.specs.List.{flat_map}
use Rattle.std.proofs.lemmas.Bool.{eqb-true, false≢true, or_cases}
use Rattle.std.proofs.lemmas.Cmp.{nat_eq_equiv}
use Rattle.std.proofs.lemmas.List.{get_or_append_left}
use Rattle.std.proofs.lemmas.List.Elements.{All-append, All-cons, All-contains, All-get_or, All-nil, Contains-append_left}
use Rattle.std.proofs.lemmas.List.Elements.{Contains-append_right}
use Rattle.graph_walks.specs.Paths.{next_of, Leads, Directly, Along}
use Rattle.graph_walks.specs.Circles.{HasNoCircle}
use Rattle.graph_walks.specs.Order.{walk, walk_from, visits_from}
use Rattle.graph_walks.specs.Reached.{has_vertex}
use Rattle.graph_walks.proofs.Lists.{Contains-head, Contains-tail}
use Rattle.graph_walks.proofs.Paths.{Leads-same}
use Rattle.plain_model.specs.Classes.{no_class}
use Rattle.plain_model.specs.BuiltIn.{array_class}
use Rattle.plain_model.specs.Facts.{class_at, is_subclass}
use Rattle.plain_model.specs.Consistent.{super_list, supers_of as plain_supers_of}
use Rattle.class_set.specs.Linked.{Linked}
use Rattle.class_set.specs.Members.{interface_edges, supers_of, superclasses_in}
use Rattle.class_set.specs.ArrayTypes.{array_type}
use Rattle.class_set.specs.Facts.{facts_of, named_classes}
use Rattle.class_set.specs.Lookups.{class_edges, supers_in_order}
use Rattle.class_set.proofs.Above.{get_or-map_all, supers_counted}
use Rattle.class_set.proofs.Edges.{edges_within, interfaces_counted, interfaces_to_edges, supers_among}
use Rattle.class_set.proofs.Circles.{edges_counted}
use Rattle.class_set.proofs.Layering.{chain_of, super_of_row, super_rows}
use Rattle.class_set.proofs.Supertypes.{above_has, classes_listed}
use Rattle.class_set.proofs.Parents.{named_counted}
use Rattle.class_set.proofs.Walks.{has_vertex-append, has_vertex-firsts}

-- ---- a walk comes only to where paths lead

module _ (edges : List (List ℕ)) where
  some_leads : (from_one : ℕ → List ℕ) (v n : ℕ) (ns : List ℕ) → ((w : ℕ) → has_vertex (from_one w) n ≡ true → (w ≡ n) ⊎ Leads edges w n)
      → ((w : ℕ) → Contains ns w → Contains (next_of edges v) w) → has_vertex (flat_map from_one ns) n ≡ true → Leads edges v n
  some_leads from_one v n [] leads among h = absurd (false≢true h)
  some_leads from_one v n (w ∷ ws) leads among h =
      elim (or_cases (has_vertex (from_one w) n) (has_vertex (flat_map from_one ws) n)
      (sym (has_vertex-append (from_one w) (flat_map from_one ws) n) ∙ h)) [
        | inl e ↦ elim (leads w e) [
          | inl same ↦ Directly v n (subst (Contains (next_of edges v)) same (among w (Contains-head w ws)))
          | inr path ↦ Along v w n (among w (Contains-head w ws)) path
        ]
        | inr e ↦ some_leads from_one v n ws leads (λ x c. among x (Contains-tail w ws x c)) e
      ]

  walk_leads : (deep v n : ℕ) → has_vertex (walk_from edges deep v) n ≡ true → (v ≡ n) ⊎ Leads edges v n
  walk_leads zero v n h = elim (or_cases (nat_eq n v) false h) [ inl e ↦ inl (sym (eqb-true n v e)) | inr e ↦ absurd (false≢true e) ]
  walk_leads (suc deep) v n h =
      elim (or_cases (nat_eq n v) (has_vertex (flat_map (walk_from edges deep) (next_of edges v)) n) h) [
        | inl e ↦ inl (sym (eqb-true n v e))
        | inr e ↦ inr (some_leads (walk_from edges deep) v n (next_of edges v) (λ w. walk_leads deep w n) (λ w c. c) e)
      ]

  -- from one of these
  some_start : (from_one : ℕ → List ℕ) (n : ℕ) (ns : List ℕ) → has_vertex (flat_map from_one ns) n ≡ true
      → (c : ℕ) × (has_vertex ns c ≡ true) × (has_vertex (from_one c) n ≡ true)
  some_start from_one n [] h = absurd (false≢true h)
  some_start from_one n (w ∷ ws) h =
      elim (or_cases (has_vertex (from_one w) n) (has_vertex (flat_map from_one ws) n)
      (sym (has_vertex-append (from_one w) (flat_map from_one ws) n) ∙ h)) [
        | inl e ↦ (w, ap (λ b. b || has_vertex ws w) (nat_eq_equiv.refl w), e)
        | inr e ↦ (let rest = some_start from_one n ws e in (rest.0, ap (λ b. nat_eq rest.0 w || b) rest.1 ∙ or_true (nat_eq rest.0 w), rest.2))
      ]
    where
      or_true : (b : Bool) → (b || true) ≡ true
      or_true true = refl
      or_true false = refl

joined : (edges : List (List ℕ)) (a b c : ℕ) → (a ≡ b) ⊎ Leads edges a b → (b ≡ c) ⊎ Leads edges b c → (a ≡ c) ⊎ Leads edges a c
joined edges a b c (inl e) q = subst (λ x. (x ≡ c) ⊎ Leads edges x c) (sym e) q
joined edges a b c (inr p) (inl e) = inr (subst (Leads edges a) e p)
joined edges a b c (inr p) (inr q) = inr (Leads-joined edges a b c p q)
  where
    Leads-joined : (edges : List (List ℕ)) (a b c : ℕ) → Leads edges a b → Leads edges b c → Leads edges a c
    Leads-joined edges a b c (Directly v w k) q = Along a b c k q
    Leads-joined edges a b c (Along v between w k path) q = Along a between c k (Leads-joined edges between b c path q)

renamed : (edges others : List (List ℕ)) (a b : ℕ) → ((from to : ℕ) → Contains (next_of edges from) to → Contains (next_of others from) to)
    → (a ≡ b) ⊎ Leads edges a b → (a ≡ b) ⊎ Leads others a b
renamed edges others a b same (inl e) = inl e
renamed edges others a b same (inr p) = inr (Leads-same edges others same a b p)

-- ---- from a class to its supertypes

pub above_leads : (set : Linked) (s t : ℕ) → s < length set.files + 28 → is_subclass (facts_of set) s t ≡ true
    → (s ≡ t) ⊎ Leads (class_edges set.files) s t
unfolding visits_from
above_leads set s t l h =
    let files = set.files in
    let edges = interface_edges files in
    let classes = class_edges files in
    let rows = super_rows (supers_of files) in
    let chain = superclasses_in (supers_of files) (length (supers_of files)) s in
    let in_walks : has_vertex (flat_map (walk edges) chain) t ≡ true =
    sym (has_vertex-firsts (flat_map (walk edges) chain) t) ∙ above_has set s t (omega (arith, l, interfaces_counted files)) ∙ h in
    let found = some_start edges (walk edges) t chain in_walks in
    let up : (found.0 ≡ t) ⊎ Leads classes found.0 t =
    renamed edges classes found.0 t (interfaces_to_edges files) (walk_leads edges (length edges) found.0 t found.2) in
    let chained : has_vertex (walk rows s) found.0 ≡ true =
    ap (λ ns. has_vertex ns found.0) (sym (chain_of files s)) ∙ ap (λ k. has_vertex (superclasses_in (supers_of files) k s) found.0) (sym (supers_counted files)) ∙ found.1 in
    let first : (s ≡ found.0) ⊎ Leads classes s found.0 =
    renamed rows classes s found.0 (λ from to c. supers_among files from to (super_of_row (supers_of files) from to c))
    (walk_leads rows (length rows) s found.0 chained) in
    joined classes s found.0 t first up

-- ---- circles

pub false_unless : (b : Bool) → (b ≡ true → ⊥) → b ≡ false
false_unless true h = absurd (h refl)
false_unless false h = refl

class_row : (set : Linked) (n : ℕ) → n < length set.files + 28 → next_of (class_edges set.files) n ≡ supers_in_order (class_at (facts_of set) n)
class_row set n l =
    let named = named_classes set.files in
    let arrays = map (array_class (length set.files)) (map (array_type set.files) set.arrays) in
    get_or-map_all supers_in_order no_class named n
    ∙ ap supers_in_order (sym (get_or_append_left named arrays no_class n (omega (arith, l, named_counted set.files))))
    ∙ ap (λ cs. supers_in_order (slice_index_or cs n no_class)) (sym (classes_listed set))

all_of : (P : ℕ → Type 0) (ns : List ℕ) → ((v : ℕ) → Contains ns v → P v) → All P ns
all_of P [] h = All-nil P
all_of P (n ∷ ns) h = All-cons P n ns (h n (Contains-head n ns)) (all_of P ns (λ v c. h v (Contains-tail n ns v c)))

pub no_class_below : (set : Linked) → HasNoCircle (class_edges set.files) → (n : ℕ) → n < length set.files + 28
    → All (λ super. is_subclass (facts_of set) super n ≡ false) (plain_supers_of (class_at (facts_of set) n))
no_class_below set none n l =
    let edges = class_edges set.files in
    let c = class_at (facts_of set) n in
    let apart : (s : ℕ) → Contains (supers_in_order c) s → is_subclass (facts_of set) s n ≡ false = λ s at.
    let next : Contains (next_of edges n) s = subst (λ ns. Contains ns s) (sym (class_row set n l)) at in
    let within : s < length edges = All-contains (λ (v : ℕ). v < length edges) (next_of edges n) s
    (All-get_or (λ ns. All (λ (v : ℕ). v < length edges) ns) edges n [] (omega (arith, l, edges_counted set.files)) (edges_within set.files)) next in
    false_unless (is_subclass (facts_of set) s n) (λ h. elim (above_leads set s n (omega (arith, within, edges_counted set.files)) h) [
      | inl e ↦ none n (Directly n n (subst (Contains (next_of edges n)) e next))
      | inr path ↦ none n (Along n s n next path)
    ]) in
    All-append (λ super. is_subclass (facts_of set) super n ≡ false) (super_list c.superclass) c.interfaces
    (all_of (λ super. is_subclass (facts_of set) super n ≡ false) (super_list c.superclass)
    (λ s at. apart s (Contains-append_right c.interfaces (super_list c.superclass) s at)))
    (all_of (λ super. is_subclass (facts_of set) super n ≡ false) c.interfaces
    (λ s at. apart s (Contains-append_left c.interfaces (super_list c.superclass) s at)))
