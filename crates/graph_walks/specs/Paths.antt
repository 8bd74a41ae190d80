-- Directed graphs, whose vertices are numbered, and whose edges are listed by the vertex from which they lead; and the paths along them.
use Rattle.std.specs.Prelude.{◌≡◌, ℕ, ◌↔◌, ◌⊎◌, List, [], length, slice_index_or, Contains}

-- the vertices to which edges lead from this one
abbrev pub next_of : List (List ℕ) → ℕ → List ℕ
next_of edges v = slice_index_or edges v []

-- A path of one edge or more leads from one vertex to another.
pub data Leads (edges : List (List ℕ)) : ℕ → ℕ → Type 0 where
  Directly : (from to : ℕ) → Contains (next_of edges from) to → Leads edges from to
  Along : (from between to : ℕ) → Contains (next_of edges from) between → Leads edges between to → Leads edges from to

-- The vertex is one of these, or a path leads from one of them to it.
abbrev pub IsReached : List (List ℕ) → (starts : List ℕ) → ℕ → Type 0
IsReached edges starts n = Contains starts n ⊎ ((v : ℕ) × Contains starts v × Leads edges v n)

-- Edges from the same vertices to the same ones, maybe listed in another order, or more than once.
pub record HaveSameEdges (edges others : List (List ℕ)) : Type 0 where
  pub count : length edges ≡ length others
  pub same : (from to : ℕ) → Contains (next_of edges from) to ↔ Contains (next_of others from) to
