-- Walks in a graph without circles.
use Rattle.std.proofs.Common.{◌≡◌, ℕ, ◌+◌, ◌<◌, ◌≤◌, zero, suc, true, false, List, [], ◌∷◌, ◌++◌, refl, ap, sym, ◌∙◌, subst}
use Rattle.std.proofs.Common.{arith, length, nat_eq, inl, inr}
use Rattle.std.specs.Prelude.{Contains, All}
use Rattle.std.specs.List.{IsDistinct, flat_map}
use Rattle.std.proofs.lemmas.Bool.{eqb-true, or_cases, false≢true}
use Rattle.std.proofs.lemmas.Cmp.{nat_eq_equiv}
use Rattle.std.proofs.lemmas.List.{length-append}
use Rattle.std.proofs.lemmas.Map.Keys.{IsDistinct-push}
use Rattle.std.proofs.lemmas.Map.Steps.{length-le_from_distinct_below}
use Rattle.std.proofs.lemmas.List.Elements.{All-contains, All-get_or}
use Rattle.graph_walks.specs.Paths.{next_of, Leads, Directly}
use Rattle.graph_walks.specs.Circles.{HasNoCircle}
use Rattle.graph_walks.specs.Reached.{has_vertex}
use Rattle.graph_walks.proofs.Vertices.{has_vertex-push}
use Rattle.graph_walks.proofs.Paths.{Leads-more, Leads-within}
use Rattle.graph_walks.specs.Order.{walk_from, walk}
use Rattle.graph_walks.proofs.Lists.{flat_map-same}

-- A graph without circles, whose edges lead to vertices that are there.
pub record IsAcyclic (edges : List (List ℕ)) : Type 0 where
  pub there : (u v : ℕ) → Contains (next_of edges u) v → v < length edges
  pub no_circle : HasNoCircle edges

-- Different vertices that are there, from each of which a path leads to this one.
record IsPathTo (edges : List (List ℕ)) (path : List ℕ) (v : ℕ) : Type 0 where
  once : IsDistinct nat_eq path
  below : (u : ℕ) → has_vertex path u ≡ true → u < length edges
  leads : (u : ℕ) → has_vertex path u ≡ true → Leads edges u v

IsPathTo-none : (edges : List (List ℕ)) (v : ℕ) → IsPathTo edges [] v
unfolding IsDistinct
IsPathTo-none edges v = record {
  once = tt;
  below = λ u h. absurd (false≢true h);
  leads = λ u h. absurd (false≢true h);
}

not_on_path : (edges : List (List ℕ)) (path : List ℕ) (v : ℕ) → HasNoCircle edges → IsPathTo edges path v → has_vertex path v ≡ false
not_on_path edges path v none p =
    elim (has_vertex path v) as (λ b. has_vertex path v ≡ b → b ≡ false) [ true ↦ λ e. absurd (none v (p.leads v e)) | false ↦ λ e. refl ] refl

push_once : (edges : List (List ℕ)) (path : List ℕ) (v : ℕ) → HasNoCircle edges → IsPathTo edges path v → IsDistinct nat_eq (path ++ v ∷ [])
push_once edges path v none p = IsDistinct-push nat_eq_equiv path v p.once (not_on_path edges path v none p)

push_cases : (P : ℕ → Type 0) (path : List ℕ) (v : ℕ) → ((u : ℕ) → has_vertex path u ≡ true → P u) → P v
    → (u : ℕ) → has_vertex (path ++ v ∷ []) u ≡ true → P u
push_cases P path v f p u h = elim (or_cases (has_vertex path u) (nat_eq u v) (sym (has_vertex-push path v u) ∙ h))
    [ inl e ↦ f u e | inr e ↦ subst P (sym (eqb-true u v e)) p ]

IsPathTo-push : (edges : List (List ℕ)) (path : List ℕ) (v next : ℕ) → HasNoCircle edges → v < length edges → IsPathTo edges path v
    → Contains (next_of edges v) next → IsPathTo edges (path ++ v ∷ []) next
IsPathTo-push edges path v next none l p c = record {
  once = push_once edges path v none p;
  below = push_cases (λ u. u < length edges) path v p.below l;
  leads = push_cases (λ u. Leads edges u next) path v (λ u h. Leads-more edges u v next (p.leads u h) c) (Directly v next c);
}

-- Where the path and the depth that is left are as long as there are vertices, one more edge is none.
deep_enough : (edges : List (List ℕ)) (deep : ℕ) (path : List ℕ) (v : ℕ) → IsAcyclic edges → v < length edges → IsPathTo edges path v
    → length edges ≤ length path + deep → walk_from edges deep v ≡ walk_from edges (suc deep) v
deep_enough edges zero path v graph l p all =
    let few : length (path ++ v ∷ []) ≤ length edges = length-le_from_distinct_below (path ++ v ∷ []) (length edges)
    (push_once edges path v graph.no_circle p) (push_cases (λ u. u < length edges) path v p.below l) in
    absurd (omega (arith, few, all, length-append path (v ∷ [])))
deep_enough edges (suc deep) path v graph l p all =
    ap (λ ns. v ∷ ns) (flat_map-same (walk_from edges deep) (walk_from edges (suc deep)) (next_of edges v)
    (λ next c. deep_enough edges deep (path ++ v ∷ []) next graph (graph.there v next c)
    (IsPathTo-push edges path v next graph.no_circle l p c) (omega (arith, all, length-append path (v ∷ [])))))

-- the walk is the vertex, and then the walks from those to which its edges lead
pub walk_step : (edges : List (List ℕ)) (v : ℕ) → IsAcyclic edges → v < length edges
    → walk edges v ≡ v ∷ flat_map (walk edges) (next_of edges v)
walk_step edges v graph l = deep_enough edges (length edges) [] v graph l (IsPathTo-none edges v) (omega arith)

-- the same as the clauses say it
pub IsAcyclic-from : (edges : List (List ℕ)) → All (λ next. All (λ (v : ℕ). v < length edges) next) edges → HasNoCircle edges → IsAcyclic edges
IsAcyclic-from edges there none = record {
  there = λ u v c. let l : u < length edges = Leads-within edges u v (Directly u v c) in
      All-contains (λ v. v < length edges) (next_of edges u) v
      (All-get_or (λ next. All (λ (v : ℕ). v < length edges) next) edges u [] l there) c;
  no_circle = none;
}
