-- The roots of a graph that is found, and its faults.
use Rattle.std.proofs.Common.{◌≡◌, ◌<◌, ◌+◌, ◌++◌, ◌∷◌, ℕ, List, [], None, length, map, slice_index_or, refl, sym, ◌∙◌, ap}
use Rattle.std.proofs.Common.{arith}
use Rattle.std.specs.List.{range_with_len}
use Rattle.std.proofs.lemmas.List.{get_or-map}
use Rattle.std.proofs.lemmas.List.FromFn.{length-map-range_with_len, get_or-map-range_with_len, map-range_with_len_more}
use Rattle.graph_model.specs.declared.types.Value.{Value}
use Rattle.graph_model.specs.declared.types.Value.TheVariants.{Null}
use Rattle.graph_model.specs.declared.types.Shape.{Shape}
use Rattle.graph_model.specs.declared.types.Node.{Node}
use Rattle.graph_model.specs.declared.types.Graph.{Graph}
use Rattle.graph_model.specs.declared.types.NamedValue.{NamedValue}
use Rattle.graph_model.specs.Canon.{renumbered}
use Rattle.image_meaning.specs.Checks.{Words}
use Rattle.image_meaning.specs.Directories.{Directory}
use Rattle.image_meaning.specs.Meaning.{root_value, root_values_of, roots_fault, walk, root_at, node_at, graph_found}
use Rattle.image_meaning.specs.Meaning.{graph_from}
use Rattle.image_meaning.proofs.Ranges.{mapped_same}
use Rattle.image_walk.specs.Walking.{IsFault, IsFaultOf, directory_with, named_root}
use Rattle.image_walk.specs.declared.fault.RecoverFault.{RecoverFault}
use Rattle.image_walk.specs.declared.fault.RecoverFault.TheVariants as faults

pub root_pushed : (names : List (List ℕ)) (values : List Value) (i : ℕ) (before after : List NamedValue) (item : NamedValue)
    → before ≡ map (named_root names values) (range_with_len 0 i) → after ≡ before ++ item ∷ []
    → item.name ≡ slice_index_or names i [] → item.value ≡ slice_index_or values i Null
    → after ≡ map (named_root names values) (range_with_len 0 (i + 1))
root_pushed names values i before after item so pushed name value =
    let same : item ≡ named_root names values i = same_root item (slice_index_or names i []) (slice_index_or values i Null) name value in
    pushed ∙ rw (so, same) (sym (map-range_with_len_more (named_root names values) 0 i i (omega arith)))
  where
    same_root : (a : NamedValue) (n : List ℕ) (v : Value) → a.name ≡ n → a.value ≡ v
        → let other : NamedValue = record { name = n; value = v } in a ≡ other
    same_root a n v e f = rw (← e, ← f) refl

-- the names with the values' numbers are the graph's roots
pub named_roots : (words : Words) (names : List (List ℕ)) (found : List ℕ) (places : List Value)
    → places ≡ map (renumbered found) (root_values_of words (length names))
    → map (named_root names places) (range_with_len 0 (length names)) ≡ map (root_at words names found) (range_with_len 0 (length names))
named_roots words names found places are =
    mapped_same (named_root names places) (root_at words names found) 0 (length names)
    (λ j low high.
    let below : j < length names = omega (arith, high) in
    let inside : j < length (root_values_of words (length names)) = rw (length-map-range_with_len (root_value words) 0 (length names)) below in
    let value : slice_index_or places j Null ≡ renumbered found (root_value words j) =
    ap (λ (vs : List Value). slice_index_or vs j Null) are
    ∙ get_or-map (renumbered found) (root_values_of words (length names)) j Null Null inside
    ∙ ap (renumbered found) (get_or-map-range_with_len (root_value words) 0 (length names) j j Null below (omega arith)) in
    ap (λ (v : Value). let r : NamedValue = record { name = slice_index_or names j []; value = v } in r) value)

pub fails_at_roots : (size : ℕ) (directory : Directory) (words : Words) (fault : RecoverFault)
    → IsFault (roots_fault size words (length directory.roots)) fault → IsFaultOf (graph_from size directory words) fault
unfolding graph_from
fails_at_roots size directory words (faults.Bad line reason) fails = rw fails refl
fails_at_roots size directory words faults.ImageFailed fails = tt
fails_at_roots size directory words faults.OutOfMemory fails = tt

pub fails_at_walk : (size : ℕ) (directory : Directory) (words : Words) (fault : RecoverFault)
    → roots_fault size words (length directory.roots) ≡ None
    → IsFaultOf (walk directory.shapes size words (root_values_of words (length directory.roots)) size) fault
    → IsFaultOf (graph_from size directory words) fault
unfolding graph_from
fails_at_walk size directory words (faults.Bad line reason) passes fails = rw (passes, fails) refl
fails_at_walk size directory words faults.ImageFailed passes fails = tt
fails_at_walk size directory words faults.OutOfMemory passes fails = tt

pub graph_is : (shapes : List Shape) (names : List (List ℕ)) (words : Words) (found lines : List ℕ) (values places : List Value)
    (graph : Graph) → lines ≡ found → values ≡ root_values_of words (length names)
    → places ≡ map (renumbered found) values → graph.roots ≡ map (named_root names places) (range_with_len 0 (length names))
    → graph.nodes ≡ map (node_at shapes words found) found → graph ≡ graph_found (directory_with shapes names) words lines
graph_is shapes names words found lines values places graph lines_are values_are places_are roots_are nodes_are =
    let named : graph.roots ≡ map (root_at words names found) (range_with_len 0 (length names)) =
    roots_are ∙ named_roots words names found places (places_are ∙ ap (map (renumbered found)) values_are) in
    rw lines_are (same_graph graph (map (root_at words names found) (range_with_len 0 (length names)))
    (map (node_at shapes words found) found) named nodes_are)
  where
    same_graph : (g : Graph) (roots : List NamedValue) (nodes : List Node) → g.roots ≡ roots → g.nodes ≡ nodes
        → let other : Graph = record { roots = roots; nodes = nodes } in g ≡ other
    same_graph g roots nodes e f = rw (← e, ← f) refl
