-- Circles in a directed graph.
use Rattle.std.specs.Prelude.{ℕ, ◌<◌, List}
use Rattle.graph_walks.specs.Paths.{Leads}

-- no vertex lies on a circle
abbrev pub HasNoCircle : List (List ℕ) → Type 0
HasNoCircle edges = (v : ℕ) → Leads edges v v → ⊥

-- the vertex lies on a circle, and none before it does
pub record IsFirstOnCircle (edges : List (List ℕ)) (v : ℕ) : Type 0 where
  pub circle : Leads edges v v
  pub first : (u : ℕ) → u < v → Leads edges u u → ⊥
