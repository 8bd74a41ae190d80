-- The vertices to which paths lead, in the order of a walk that goes depth first (JVMS 5.4.3.2 looks for a field in this order).
use Rattle.std.specs.Prelude.{ℕ, zero, suc, List, [], ◌∷◌, length, filter, not, nat_eq}
use Rattle.std.specs.List.{flat_map}
use Rattle.graph_walks.specs.Paths.{next_of}

-- The vertex, and then the walk from each of those to which its edges lead, in order; at most so many edges deep.
abbrev pub walk_from : List (List ℕ) → (deep : ℕ) → ℕ → List ℕ
walk_from edges zero v = v ∷ []
walk_from edges (suc deep) v = v ∷ flat_map (walk_from edges deep) (next_of edges v)

-- The whole walk: in a graph without circles no path has more edges than there are vertices.
abbrev pub walk : List (List ℕ) → ℕ → List ℕ
walk edges v = walk_from edges (length edges) v

-- the same numbers, each once, where it stands first
abbrev pub firsts : List ℕ → List ℕ
firsts [] = []
firsts (n ∷ ns) = n ∷ filter (λ m. not (nat_eq m n)) (firsts ns)

-- each vertex that the walk comes to, in the order of the first visits
unfoldable pub visits : List (List ℕ) → ℕ → List ℕ
visits edges v = firsts (walk edges v)

-- each vertex that the walks from these come to, one walk after the other
unfoldable pub visits_from : List (List ℕ) → (starts : List ℕ) → List ℕ
visits_from edges starts = firsts (flat_map (walk edges) starts)
