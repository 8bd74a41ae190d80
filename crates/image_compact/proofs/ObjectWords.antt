-- The words of an object, as they are planned.
use Rattle.std.proofs.Common.{◌≡◌, ◌∙◌, ◌<◌, ◌≤◌, ◌+◌, ℕ, List, ◌∷◌, length, map, ap, sym, subst, arith, slice_index_or}
use Rattle.std.specs.Prelude.{All}
use Rattle.graph_model.specs.declared.types.Value.{Value}
use Rattle.graph_model.specs.declared.types.Node.{Node}
use Rattle.graph_model.specs.declared.types.Graph.{Graph}
use Rattle.graph_model.specs.Heaps.{IsBelow}
use Rattle.line_memory.specs.Memory.{Memory}
use Rattle.image_layout.specs.Places.{max_lines, lines_of, head_of}
use Rattle.image_meaning.specs.Opening.{no_node, graph_node}
use Rattle.image_meaning.proofs.Ranges.{get_or_any}
use Rattle.word_changes.specs.Changes.{ChangesTo, WritesAll}
use Rattle.dense_image.specs.Graphs.{CanBeStoodFor}
use Rattle.dense_image.specs.Written.{shape_number_of, line_of_node, end_line, word_in}
use Rattle.dense_image.proofs.Lines.{ends_within}
use Rattle.image_compact.specs.Planning.{AreNumbers, ArePlaces, word_by}
use Rattle.image_compact.specs.Writing.{OfWords, OfObject, object_words}
use Rattle.image_compact.proofs.LineWords.{changes_as, wrote_as}
use Rattle.image_compact.proofs.Plans.{values_below, words_are, number_is}

-- the values of a node, by the list in which it is looked up
pub same_values : (graph : Graph) (n : ℕ) → n < length graph.nodes → (nodes : List Node) (values : List Value) (d : Node) → nodes ≡ graph.nodes
    → values ≡ (slice_index_or nodes n d).values → values ≡ (graph_node graph n).values
same_values graph n h nodes values d whole is =
    is ∙ ap (λ (ns : List Node). (slice_index_or ns n d).values) whole
    ∙ ap (λ (node : Node). node.values) (sym (get_or_any graph.nodes n no_node d h))

module _ (graph : Graph) (n : ℕ) (h : n < length graph.nodes) (values : List Value) (same : values ≡ (graph_node graph n).values) where
  -- where it ends
  pub object_within : line_of_node graph n + lines_of (length values) ≤ end_line graph
  object_within = omega (arith, ends_within graph n h, ap length same)

  module _ (can : CanBeStoodFor graph) (numbers lines : List ℕ) (are : AreNumbers graph.nodes numbers) (places : ArePlaces graph.nodes lines) where
    below : All (IsBelow (length lines)) values
    below = subst (All (IsBelow (length lines))) (sym same) (values_below graph lines places (graph_node graph n) (can.nodes n h))

    pub planned_words : (head number : ℕ) → head ≡ head_of number (length values) → number ≡ slice_index_or numbers n 0
        → head ∷ map (word_by lines) values ≡ object_words graph n
    planned_words head number is at =
        let head_is : head ≡ head_of (shape_number_of graph n) (length (graph_node graph n).values) =
        is ∙ ap (λ k. head_of k (length values)) (at ∙ number_is graph numbers are n h)
        ∙ ap (λ (vs : List Value). head_of (shape_number_of graph n) (length vs)) same in
        let rest_is : map (word_by lines) values ≡ map (word_in graph) (graph_node graph n).values =
        words_are graph lines places values below ∙ ap (λ (vs : List Value). map (word_in graph) vs) same in
        ap (λ (k : ℕ). k ∷ map (word_by lines) values) head_is
        ∙ ap (λ (ws : List ℕ). head_of (shape_number_of graph n) (length (graph_node graph n).values) ∷ ws) rest_is

    module _ (head number from : ℕ) (is : head ≡ head_of number (length values)) (at : number ≡ slice_index_or numbers n 0)
        (first : from ≡ slice_index_or lines n 0) (a b : Memory) where
      begins : from ≡ line_of_node graph n
      begins = first ∙ places.each n h

      count : lines_of (length values) ≡ lines_of (length (graph_node graph n).values)
      count = ap (λ (vs : List Value). lines_of (length vs)) same

      pub object_wrote : WritesAll (OfWords (head ∷ map (word_by lines) values) from (lines_of (length values))) a b
          → WritesAll (OfObject graph n) a b
      object_wrote wrote =
          wrote_as (head ∷ map (word_by lines) values) (object_words graph n) from (line_of_node graph n) (lines_of (length values))
          (lines_of (length (graph_node graph n).values)) a b (planned_words head number is at) begins count wrote

      pub object_changes : ChangesTo (OfWords (head ∷ map (word_by lines) values) from (lines_of (length values))) a b
          → ChangesTo (OfObject graph n) a b
      object_changes changes =
          changes_as (head ∷ map (word_by lines) values) (object_words graph n) from (line_of_node graph n) (lines_of (length values))
          (lines_of (length (graph_node graph n).values)) a b (planned_words head number is at) begins count changes
