-- A walk comes to the same vertices in the same order where each edge is listed once.
use Rattle.std.proofs.Common.{◌≡◌, ℕ, zero, suc, ◌+◌, ◌<◌, Bool, true, false, List, [], ◌∷◌, ◌++◌, map, length, refl, ap, sym}
use Rattle.std.proofs.Common.{◌∙◌, subst, if◌then◌else◌, nat_eq, not, filter, ◌||◌, Option, add-one, inl, inr}
use Rattle.std.specs.Prelude.{All, Contains}
use Rattle.std.specs.List.{flat_map}
use Rattle.std.proofs.lemmas.Bool.{eqb-true, or_cases, or_left, or_right, false≢true}
use Rattle.std.proofs.lemmas.List.{length-map}
use Rattle.std.proofs.lemmas.List.Elements.{All-cons, All-head, All-nil, All-tail}
use Rattle.graph_walks.specs.Paths.{next_of, Leads, Directly, Along}
use Rattle.graph_walks.specs.Circles.{HasNoCircle}
use Rattle.graph_walks.specs.Order.{firsts, visits, visits_from, walk, walk_from}
use Rattle.graph_walks.specs.Reached.{has_vertex}
use Rattle.class_set.specs.Members.{superclasses_in}
use Rattle.class_set.specs.Tables.{alone, reached_above}
use Rattle.graph_walks.proofs.Firsts.{firsts_of}
use Rattle.graph_walks.proofs.Lists.{Contains-nil}
use Rattle.graph_walks.proofs.Paths.{Leads-same}
use Rattle.graph_walks.proofs.Vertices.{Contains-from_has_vertex, has_vertex-from_Contains, has_vertex-push, with_vertex}
use Rattle.graph_walks.proofs.Vertices.{with_vertices, with_vertices-append, with_vertices-none}

-- ---- what vertices more leave and bring

kept : (r : List ℕ) (x n : ℕ) → has_vertex r n ≡ true → has_vertex (with_vertex r x) n ≡ true
kept r x n h =
    elim (has_vertex r x) as (λ b. has_vertex (if b then r else r ++ x ∷ []) n ≡ true)
    [ true ↦ h | false ↦ has_vertex-push r x n ∙ or_left (has_vertex r n) (nat_eq n x) h ]

brought : (r : List ℕ) (x n : ℕ) → nat_eq n x ≡ true → has_vertex (with_vertex r x) n ≡ true
brought r x n e =
    elim (has_vertex r x) as (λ b. has_vertex r x ≡ b → has_vertex (if b then r else r ++ x ∷ []) n ≡ true) [
      | true ↦ λ h. ap (has_vertex r) (eqb-true n x e) ∙ h
      | false ↦ λ h. has_vertex-push r x n ∙ or_right (has_vertex r n) (nat_eq n x) e
    ] refl

all_kept : (r xs : List ℕ) (n : ℕ) → has_vertex r n ≡ true → has_vertex (with_vertices r xs) n ≡ true
all_kept r [] n h = h
all_kept r (x ∷ xs) n h = all_kept (with_vertex r x) xs n (kept r x n h)

all_brought : (r xs : List ℕ) (n : ℕ) → has_vertex xs n ≡ true → has_vertex (with_vertices r xs) n ≡ true
all_brought r [] n h = absurd (false≢true h)
all_brought r (x ∷ xs) n h = elim (or_cases (nat_eq n x) (has_vertex xs n) h) [
  | inl e ↦ all_kept (with_vertex r x) xs n (brought r x n e)
  | inr e ↦ all_brought (with_vertex r x) xs n e
]

none_new : (r xs : List ℕ) → ((n : ℕ) → has_vertex xs n ≡ true → has_vertex r n ≡ true) → with_vertices r xs ≡ r
none_new r xs h = with_vertices-none r xs (λ n c. Contains-from_has_vertex r n (h n (has_vertex-from_Contains xs n c)))

-- ---- walks from vertices that are listed once

skipped : (g : ℕ → List ℕ) (r : List ℕ) (y : ℕ) (zs : List ℕ) → ((n : ℕ) → has_vertex (g y) n ≡ true → has_vertex r n ≡ true)
    → with_vertices r (flat_map g (filter (λ m. not (nat_eq m y)) zs)) ≡ with_vertices r (flat_map g zs)
skipped g r y [] h = refl
skipped g r y (z ∷ zs) h =
    elim (nat_eq z y) as (λ b. nat_eq z y ≡ b
    → with_vertices r (flat_map g (if not b then z ∷ filter (λ m. not (nat_eq m y)) zs else filter (λ m. not (nat_eq m y)) zs))
    ≡ with_vertices r (g z ++ flat_map g zs)) [
      | true ↦ λ e. skipped g r y zs h
          ∙ ap (λ q. with_vertices q (flat_map g zs))
          (sym (none_new r (g z) (λ n c. h n (ap (λ m. has_vertex (g m) n) (sym (eqb-true z y e)) ∙ c))))
          ∙ sym (with_vertices-append r (g z) (flat_map g zs))
      | false ↦ λ e. with_vertices-append r (g z) (flat_map g (filter (λ m. not (nat_eq m y)) zs))
          ∙ skipped g (with_vertices r (g z)) y zs (λ n c. all_kept r (g z) n (h n c))
          ∙ sym (with_vertices-append r (g z) (flat_map g zs))
    ] refl

once : (g : ℕ → List ℕ) (r ys : List ℕ) → with_vertices r (flat_map g (firsts ys)) ≡ with_vertices r (flat_map g ys)
once g r [] = refl
once g r (y ∷ ys) =
    with_vertices-append r (g y) (flat_map g (filter (λ m. not (nat_eq m y)) (firsts ys)))
    ∙ skipped g (with_vertices r (g y)) y (firsts ys) (λ n c. all_brought r (g y) n c)
    ∙ once g (with_vertices r (g y)) ys
    ∙ sym (with_vertices-append r (g y) (flat_map g ys))

each_same : (f g : ℕ → List ℕ) → ((r : List ℕ) (v : ℕ) → with_vertices r (f v) ≡ with_vertices r (g v)) → (r ys : List ℕ)
    → with_vertices r (flat_map f ys) ≡ with_vertices r (flat_map g ys)
each_same f g same r [] = refl
each_same f g same r (y ∷ ys) =
    with_vertices-append r (f y) (flat_map f ys)
    ∙ ap (λ q. with_vertices q (flat_map f ys)) (same r y)
    ∙ each_same f g same (with_vertices r (g y)) ys
    ∙ sym (with_vertices-append r (g y) (flat_map g ys))

next_once : (edges : List (List ℕ)) (v : ℕ) → next_of (map firsts edges) v ≡ firsts (next_of edges v)
next_once [] v = refl
next_once (e ∷ es) zero = refl
next_once (e ∷ es) (suc v) = next_once es v

walks_same : (edges : List (List ℕ)) (deep : ℕ) (r : List ℕ) (v : ℕ)
    → with_vertices r (walk_from (map firsts edges) deep v) ≡ with_vertices r (walk_from edges deep v)
walks_same edges zero r v = refl
walks_same edges (suc deep) r v =
    ap (λ next. with_vertices (with_vertex r v) (flat_map (walk_from (map firsts edges) deep) next)) (next_once edges v)
    ∙ each_same (walk_from (map firsts edges) deep) (walk_from edges deep) (walks_same edges deep) (with_vertex r v) (firsts (next_of edges v))
    ∙ once (walk_from edges deep) (with_vertex r v) (next_of edges v)

walk_same : (edges : List (List ℕ)) (r : List ℕ) (v : ℕ) → with_vertices r (walk (map firsts edges) v) ≡ with_vertices r (walk edges v)
walk_same edges r v =
    ap (λ d. with_vertices r (walk_from (map firsts edges) d v)) (length-map edges firsts) ∙ walks_same edges (length edges) r v

visits_once : (edges : List (List ℕ)) (v : ℕ) → visits (map firsts edges) v ≡ visits edges v
unfolding visits
visits_once edges v = sym (firsts_of (walk (map firsts edges) v)) ∙ walk_same edges [] v ∙ firsts_of (walk edges v)

visits_from_once : (edges : List (List ℕ)) (starts : List ℕ) → visits_from (map firsts edges) starts ≡ visits_from edges starts
unfolding visits_from
visits_from_once edges starts =
    sym (firsts_of (flat_map (walk (map firsts edges)) starts))
    ∙ each_same (walk (map firsts edges)) (walk edges) (walk_same edges) [] starts
    ∙ firsts_of (flat_map (walk edges) starts)

-- ---- the edges that are listed once are edges

filter_has : (p : ℕ → Bool) (xs : List ℕ) (n : ℕ) → has_vertex (filter p xs) n ≡ true → has_vertex xs n ≡ true
filter_has p [] n h = h
filter_has p (x ∷ xs) n h =
    elim (p x) as (λ b. has_vertex (if b then x ∷ filter p xs else filter p xs) n ≡ true → (nat_eq n x || has_vertex xs n) ≡ true) [
      | true ↦ λ k. elim (or_cases (nat_eq n x) (has_vertex (filter p xs) n) k) [
        | inl e ↦ or_left (nat_eq n x) (has_vertex xs n) e
        | inr e ↦ or_right (nat_eq n x) (has_vertex xs n) (filter_has p xs n e)
      ]
      | false ↦ λ k. or_right (nat_eq n x) (has_vertex xs n) (filter_has p xs n k)
    ] h

firsts_has : (xs : List ℕ) (n : ℕ) → has_vertex (firsts xs) n ≡ true → has_vertex xs n ≡ true
firsts_has [] n h = h
firsts_has (x ∷ xs) n h = elim (or_cases (nat_eq n x) (has_vertex (filter (λ m. not (nat_eq m x)) (firsts xs)) n) h) [
  | inl e ↦ or_left (nat_eq n x) (has_vertex xs n) e
  | inr e ↦ or_right (nat_eq n x) (has_vertex xs n) (firsts_has xs n (filter_has (λ m. not (nat_eq m x)) (firsts xs) n e))
]

edge_there : (edges : List (List ℕ)) (from to : ℕ) → Contains (next_of (map firsts edges) from) to → Contains (next_of edges from) to
edge_there edges from to c =
    Contains-from_has_vertex (next_of edges from) to (firsts_has (next_of edges from) to
    (ap (λ xs. has_vertex xs to) (sym (next_once edges from)) ∙ has_vertex-from_Contains (next_of (map firsts edges) from) to c))

pub once_free : (edges : List (List ℕ)) → HasNoCircle edges → HasNoCircle (map firsts edges)
once_free edges none v path = none v (Leads-same (map firsts edges) edges (edge_there edges) v v path)

all_filter : (P : ℕ → Type 0) (p : ℕ → Bool) (xs : List ℕ) → All P xs → All P (filter p xs)
all_filter P p [] h = All-nil P
all_filter P p (x ∷ xs) h =
    elim (p x) as (λ b. All P (if b then x ∷ filter p xs else filter p xs)) [
      | true ↦ All-cons P x (filter p xs) (All-head P x xs h) (all_filter P p xs (All-tail P x xs h))
      | false ↦ all_filter P p xs (All-tail P x xs h)
    ]

all_firsts : (P : ℕ → Type 0) (xs : List ℕ) → All P xs → All P (firsts xs)
all_firsts P [] h = All-nil P
all_firsts P (x ∷ xs) h =
    All-cons P x (filter (λ m. not (nat_eq m x)) (firsts xs)) (All-head P x xs h)
    (all_filter P (λ m. not (nat_eq m x)) (firsts xs) (all_firsts P xs (All-tail P x xs h)))

each_firsts : (P : ℕ → Type 0) (edges : List (List ℕ)) → All (All P) edges → All (All P) (map firsts edges)
each_firsts P [] h = All-nil (All P)
each_firsts P (e ∷ es) h =
    All-cons (All P) (firsts e) (map firsts es) (all_firsts P e (All-head (All P) e es h)) (each_firsts P es (All-tail (All P) e es h))

pub once_there : (edges : List (List ℕ)) → All (λ next. All (λ (v : ℕ). v < length edges) next) edges
    → All (λ next. All (λ (v : ℕ). v < length (map firsts edges)) next) (map firsts edges)
once_there edges h =
    subst (λ n. All (λ next. All (λ (v : ℕ). v < n) next) (map firsts edges)) (sym (length-map edges firsts))
    (each_firsts (λ (v : ℕ). v < length edges) edges h)

-- ---- a walk along no edges

next_alone : (n v : ℕ) → next_of (alone n) v ≡ []
next_alone zero v = refl
next_alone (suc n) zero = refl
next_alone (suc n) (suc v) = next_alone n v

walk_alone : (n deep v : ℕ) → walk_from (alone n) deep v ≡ v ∷ []
walk_alone n zero v = refl
walk_alone n (suc deep) v = ap (λ next. v ∷ flat_map (walk_from (alone n) deep) next) (next_alone n v)

walks_alone : (f : ℕ → List ℕ) → ((v : ℕ) → f v ≡ v ∷ []) → (xs : List ℕ) → flat_map f xs ≡ xs
walks_alone f one [] = refl
walks_alone f one (x ∷ xs) = ap (λ ys. ys ++ flat_map f xs) (one x) ∙ ap (λ ys. x ∷ ys) (walks_alone f one xs)

pub visits_alone : (n : ℕ) (xs : List ℕ) → visits_from (alone n) xs ≡ firsts xs
unfolding visits_from
visits_alone n xs = ap firsts (walks_alone (walk (alone n)) (walk_alone n (length (alone n))) xs)

alone_leads : (n from to : ℕ) → Leads (alone n) from to → ⊥
alone_leads n from to (Directly v u c) = Contains-nil to (subst (λ xs. Contains xs to) (next_alone n from) c)
alone_leads n from to (Along v between u c path) = Contains-nil between (subst (λ xs. Contains xs between) (next_alone n from) c)

pub alone_free : (n : ℕ) → HasNoCircle (alone n)
alone_free n v path = alone_leads n v v path

all_alone : (P : ℕ → Type 0) (n : ℕ) → All (All P) (alone n)
all_alone P zero = All-nil (All P)
all_alone P (suc n) = All-cons (All P) [] (alone n) (All-nil P) (all_alone P n)

pub alone_there : (n : ℕ) → All (λ next. All (λ (v : ℕ). v < length (alone n)) next) (alone n)
alone_there n = all_alone (λ (v : ℕ). v < length (alone n)) n

one_more : (n : ℕ) → alone n ++ [] ∷ [] ≡ alone (suc n)
one_more zero = refl
one_more (suc n) = ap (λ es. [] ∷ es) (one_more n)

pub alone_more : (n : ℕ) → alone n ++ [] ∷ [] ≡ alone (n + 1)
alone_more n = one_more n ∙ ap alone (sym (add-one n))

-- ---- what is looked up

reached_once : (interfaces : List (List ℕ)) (supers : List (Option ℕ)) (n : ℕ)
    → reached_above (map firsts interfaces) supers n ≡ reached_above interfaces supers n
reached_once interfaces supers n =
    let chain = superclasses_in supers (length supers) n in
    ap (λ r. record { reached = r; count = length (map firsts interfaces) }) (visits_from_once interfaces chain)
    ∙ ap (λ k. record { reached = visits_from interfaces chain; count = k }) (length-map interfaces firsts)

same_map : {X : Type 0} (f g : ℕ → X) → ((n : ℕ) → f n ≡ g n) → (ns : List ℕ) → map f ns ≡ map g ns
same_map f g same [] = refl
same_map f g same (n ∷ ns) = ap (λ x. x ∷ map f ns) (same n) ∙ ap (λ xs. g n ∷ xs) (same_map f g same ns)

pub orders_once : (edges : List (List ℕ)) (ns : List ℕ) → map (visits (map firsts edges)) ns ≡ map (visits edges) ns
orders_once edges ns = same_map (visits (map firsts edges)) (visits edges) (visits_once edges) ns

pub above_once : (interfaces : List (List ℕ)) (supers : List (Option ℕ)) (ns : List ℕ)
    → map (reached_above (map firsts interfaces) supers) ns ≡ map (reached_above interfaces supers) ns
above_once interfaces supers ns =
    same_map (reached_above (map firsts interfaces) supers) (reached_above interfaces supers) (reached_once interfaces supers) ns
