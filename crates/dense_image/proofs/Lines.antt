-- The lines of nodes, one behind another.
use Rattle.std.proofs.Common.{◌≡◌, inl, inr, ℕ, zero, suc, ◌+◌, ◌<◌, ◌≤◌, List, [], ◌∷◌, length, take, refl, ap, arith, slice_index_or}
use Rattle.std.proofs.lemmas.Bool.{cases_lt}
use Rattle.graph_model.specs.declared.types.Node.{Node}
use Rattle.graph_model.specs.declared.types.Graph.{Graph}
use Rattle.image_layout.specs.Places.{lines_of}
use Rattle.image_meaning.specs.Opening.{no_node, graph_node}
use Rattle.dense_image.specs.Written.{lines_taken, line_of_node, end_line}

-- the lines of the first n nodes, and those of the next
pub taken_next : (nodes : List Node) (n : ℕ) → n < length nodes
    → lines_taken (take (suc n) nodes) ≡ lines_taken (take n nodes) + lines_of (length (slice_index_or nodes n no_node).values)
taken_next [] n h = absurd (omega (arith, h))
taken_next (node ∷ nodes) zero h = omega arith
taken_next (node ∷ nodes) (suc n) h = omega (arith, taken_next nodes n (omega (arith, h)))

-- fewer nodes take no more lines
pub taken_fewer : (nodes : List Node) (m n : ℕ) → m ≤ n → lines_taken (take m nodes) ≤ lines_taken (take n nodes)
taken_fewer [] zero n h = omega arith
taken_fewer [] (suc m) zero h = absurd (omega (arith, h))
taken_fewer [] (suc m) (suc n) h = omega arith
taken_fewer (node ∷ nodes) zero n h = omega arith
taken_fewer (node ∷ nodes) (suc m) zero h = absurd (omega (arith, h))
taken_fewer (node ∷ nodes) (suc m) (suc n) h = omega (arith, taken_fewer nodes m n (omega (arith, h)))

pub taken_all : (nodes : List Node) (n : ℕ) → length nodes ≤ n → lines_taken (take n nodes) ≡ lines_taken nodes
taken_all [] zero h = refl
taken_all [] (suc n) h = refl
taken_all (node ∷ nodes) zero h = absurd (omega (arith, h))
taken_all (node ∷ nodes) (suc n) h = ap (λ k. lines_of (length node.values) + k) (taken_all nodes n (omega (arith, h)))

module _ (graph : Graph) where
  -- an earlier node ends before a later one begins
  pub ends_before : (m n : ℕ) → m < n → n < length graph.nodes
      → line_of_node graph m + lines_of (length (graph_node graph m).values) ≤ line_of_node graph n
  ends_before m n before h =
      omega (arith, taken_next graph.nodes m (omega (arith, before, h)), taken_fewer graph.nodes (suc m) n (omega (arith, before)))

  -- each ends before the first line behind all
  pub ends_within : (n : ℕ) → n < length graph.nodes
      → line_of_node graph n + lines_of (length (graph_node graph n).values) ≤ end_line graph
  ends_within n h =
      omega (
        arith,
        taken_next graph.nodes n h,
        taken_fewer graph.nodes (suc n) (length graph.nodes) (omega (arith, h)),
        taken_all graph.nodes (length graph.nodes) (omega arith),
      )

  -- the last one does so there
  pub ends_last : (n : ℕ) → suc n ≡ length graph.nodes
      → line_of_node graph n + lines_of (length (graph_node graph n).values) ≡ end_line graph
  ends_last n last =
      omega (arith, taken_next graph.nodes n (omega (arith, last)), taken_all graph.nodes (suc n) (omega (arith, last)))

  -- two nodes don't begin at one line
  pub begins_once : (m n : ℕ) → m < length graph.nodes → n < length graph.nodes → line_of_node graph m ≡ line_of_node graph n → m ≡ n
  begins_once m n x y same = elim (cases_lt m n) [
    | inl before ↦ absurd (omega (arith, ends_before m n before y, same))
    | inr from ↦ elim (cases_lt n m) [
      | inl before ↦ absurd (omega (arith, ends_before n m before x, same))
      | inr past ↦ omega (arith, from, past)
    ]
  ]
