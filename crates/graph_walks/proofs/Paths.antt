-- Paths in a directed graph.
use Rattle.std.proofs.Common.{ℕ, ◌<◌, ◌≤◌, List, [], length, arith, subst, inl, inr}
use Rattle.std.specs.Prelude.{Contains}
use Rattle.std.proofs.lemmas.Bool.{cases_lt}
use Rattle.std.proofs.lemmas.List.{get_or_past}
use Rattle.graph_walks.specs.Paths.{next_of, Leads, Directly, Along, IsReached, HaveSameEdges}
use Rattle.graph_walks.specs.Circles.{HasNoCircle, IsFirstOnCircle}

-- no edge leads from a vertex that isn't there
next_of-past : (edges : List (List ℕ)) (v n : ℕ) → length edges ≤ v → Contains (next_of edges v) n → ⊥
next_of-past edges v n h c =
    let none : Contains [] n = subst (λ xs. Contains xs n) (get_or_past edges v [] h) c in
    omega (arith, none.1)

edge_within : (edges : List (List ℕ)) (v n : ℕ) → Contains (next_of edges v) n → v < length edges
edge_within edges v n c = elim (cases_lt v (length edges)) [ inl l ↦ l | inr h ↦ absurd (next_of-past edges v n h c) ]

pub Leads-within : (edges : List (List ℕ)) (from to : ℕ) → Leads edges from to → from < length edges
Leads-within edges from to (Directly v n c) = edge_within edges from to c
Leads-within edges from to (Along v between n c path) = edge_within edges from between c

-- one edge more
pub Leads-more : (edges : List (List ℕ)) (from between to : ℕ) → Leads edges from between → Contains (next_of edges between) to
    → Leads edges from to
Leads-more edges from between to (Directly v n d) c = Along from between to d (Directly between to c)
Leads-more edges from between to (Along v first n d path) c = Along from first to d (Leads-more edges first between to path c)

-- What has each vertex to which an edge leads from one that it has, has all to which paths lead.
pub Leads-covered : (edges : List (List ℕ)) (P : ℕ → Type 0) → ((m n : ℕ) → P m → Contains (next_of edges m) n → P n)
    → (from to : ℕ) → Leads edges from to → ((n : ℕ) → Contains (next_of edges from) n → P n) → P to
Leads-covered edges P closed from to (Directly v n c) first = first to c
Leads-covered edges P closed from to (Along v between n c path) first =
    Leads-covered edges P closed between to path (λ n d. closed between n (first between c) d)

-- ---- what paths reach

pub IsReached-more : (edges : List (List ℕ)) (starts : List ℕ) (from to : ℕ) → IsReached edges starts from
    → Contains (next_of edges from) to → IsReached edges starts to
IsReached-more edges starts from to (inl c) d = inr (from, c, Directly from to d)
IsReached-more edges starts from to (inr p) d = inr (p.0, p.1, Leads-more edges p.0 from to p.2 d)

-- What has these vertices, and each vertex to which an edge leads from one that it has, has all that is reached.
pub IsReached-covered : (edges : List (List ℕ)) (P : ℕ → Type 0) (starts : List ℕ)
    → ((m n : ℕ) → P m → Contains (next_of edges m) n → P n) → ((n : ℕ) → Contains starts n → P n) → (n : ℕ)
    → IsReached edges starts n → P n
IsReached-covered edges P starts closed begun n (inl c) = begun n c
IsReached-covered edges P starts closed begun n (inr p) =
    Leads-covered edges P closed p.0 n p.2 (λ m d. closed p.0 m (begun p.0 p.1) d)

-- a path of one edge or more, as what is reached from the vertices after its first one
pub IsReached-from_leads : (edges : List (List ℕ)) (from to : ℕ) → Leads edges from to → IsReached edges (next_of edges from) to
IsReached-from_leads edges from to (Directly v n c) = inl c
IsReached-from_leads edges from to (Along v between n c path) = inr (between, c, path)

pub Leads-from_reached : (edges : List (List ℕ)) (from to : ℕ) → IsReached edges (next_of edges from) to → Leads edges from to
Leads-from_reached edges from to (inl c) = Directly from to c
Leads-from_reached edges from to (inr p) = Along from p.0 to p.1 p.2

-- ---- the same edges, listed in another way
pub Leads-same : (edges others : List (List ℕ)) → ((from to : ℕ) → Contains (next_of edges from) to → Contains (next_of others from) to)
    → (from to : ℕ) → Leads edges from to → Leads others from to
Leads-same edges others same from to (Directly v n c) = Directly from to (same from to c)
Leads-same edges others same from to (Along v between n c path) =
    Along from between to (same from between c) (Leads-same edges others same between to path)

pub HasNoCircle-same : (edges others : List (List ℕ)) → HaveSameEdges edges others → HasNoCircle edges → HasNoCircle others
HasNoCircle-same edges others h none v path = none v (Leads-same others edges (λ from to. (h.same from to).1) v v path)

pub IsFirstOnCircle-same : (edges others : List (List ℕ)) (v : ℕ) → HaveSameEdges edges others → IsFirstOnCircle edges v
    → IsFirstOnCircle others v
IsFirstOnCircle-same edges others v h first = record {
  circle = Leads-same edges others (λ from to. (h.same from to).0) v v first.circle;
  first = λ u l path. first.first u l (Leads-same others edges (λ from to. (h.same from to).1) u u path);
}
