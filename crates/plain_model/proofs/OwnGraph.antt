-- The first heap of a canonical opening graph has that graph.
use Rattle.std.proofs.Common.{◌≡◌, ℕ, suc, ◌<◌, true, false, List, [], ◌∷◌, ◌++◌, map, length, refl, ap, sym, ◌∙◌, subst, arith}
use Rattle.std.proofs.Common.{nat_eq, zero, slice_index_or}
use Rattle.std.specs.Prelude.{All, Contains}
use Rattle.std.specs.List.{IsDistinct, flat_map}
use Rattle.std.proofs.lemmas.List.{get_or-map, get_or_append_left, get_or_default, length-map, same_lists}
use Rattle.std.proofs.lemmas.List.Elements.{All-head, All-tail, All-nil, All-map, All-contains, All-get_or, Contains-get_or}
use Rattle.graph_model.specs.declared.types.Value.{Value}
use Rattle.graph_model.specs.declared.types.Value.TheVariants.{Int, Long, Null, Obj as Object}
use Rattle.graph_model.specs.declared.types.Obj.{Obj}
use Rattle.graph_model.specs.declared.types.Root.{Root}
use Rattle.graph_model.specs.declared.types.Heap.{Heap}
use Rattle.graph_model.specs.declared.types.Node.{Node}
use Rattle.graph_model.specs.declared.types.NamedValue.{NamedValue}
use Rattle.graph_model.specs.declared.types.Graph.{Graph}
use Rattle.graph_model.specs.Heaps.{has_number, values_of, object_at, shape_at, root_values, no_object, no_shape, IsSound}
use Rattle.graph_model.specs.Heaps.{IsBelow}
use Rattle.graph_model.specs.Canon.{with_new, place_in, renumbered, node_of, root_of, graph_by, canon_of, found_from}
use Rattle.graph_model.specs.Reach.{here, along, IsReached}
use Rattle.graph_model.specs.BreadthFirst.{IsNumbering}
use Rattle.graph_model.proofs.Numbers.{has_number-from_Contains, Contains-from_has_number, has_number-any, with_new-has}
use Rattle.graph_model.proofs.FoundAfter.{found_from-numbering, found_from-only, root_values-below}
use Rattle.std.proofs.lemmas.Cmp.{nat_eq_equiv}
use Rattle.std.proofs.lemmas.Map.Keys.{IsDistinct-push}
use Rattle.plain_model.specs.Classes.{ClassFacts, no_class}
use Rattle.plain_model.specs.Facts.{SetFacts, classes_of, class_at, stream_class, arguments_class}
use Rattle.plain_model.specs.Consistent.{IsComplete}
use Rattle.plain_model.specs.First.{IsOpening, class_named, numbers_to, first_heap, node_object, literal_object, roots_from}
use Rattle.plain_model.proofs.Places.{IsIn, AreIn, place_at, numbers-length, numbers-at, new-places, own_place, all_places}
use Rattle.plain_model.proofs.FirstSound.{first_heap_is_sound}
use Rattle.plain_model.proofs.RootsRead.{reading, roots_read}

abbrev no_node : Node
no_node = record { shape = no_shape; values = [] }

module _ (set : SetFacts) (opening : Graph) (is : IsOpening set opening) where
  abbrev count : ℕ
  count = length opening.nodes

  abbrev heap : Heap
  heap = first_heap set opening

  abbrev node_at : ℕ → Node
  node_at n = slice_index_or opening.nodes n no_node

  abbrev other_objects : List Obj
  other_objects = record { shape = stream_class set; values = [] } ∷ record { shape = arguments_class set; values = [] }
      ∷ map (literal_object set opening) set.literals

  pub object_is_node : (n : ℕ) → n < count → object_at heap n ≡ node_object set opening (node_at n)
  unfolding first_heap
  object_is_node n below =
      get_or_append_left (map (node_object set opening) opening.nodes) other_objects no_object n
      (rw (length-map opening.nodes (node_object set opening)) below)
      ∙ get_or-map (node_object set opening) opening.nodes n no_node no_object below

  values_are : (n : ℕ) → n < count → values_of heap n ≡ (node_at n).values
  values_are n below = ap (λ (o : Obj). o.values) (object_is_node n below)

  value_of-map : (roots : List Root) → map (λ (r : NamedValue). r.value) (map (reading set opening is) roots)
      ≡ map (λ (r : Root). (reading set opening is r).value) roots
  value_of-map [] = refl
  value_of-map (r ∷ rs) = ap (λ vs. (reading set opening is r).value ∷ vs) (value_of-map rs)

  roots_hold : root_values heap ≡ map (λ (r : NamedValue). r.value) opening.roots
  unfolding first_heap
  roots_hold =
      sym (value_of-map (roots_from set opening 0 opening.roots))
      ∙ ap (map (λ (r : NamedValue). r.value)) (roots_read set opening is opening.roots [] 0 refl refl)

  -- what is reached is a node
  reached_below : (n : ℕ) → IsReached heap (root_values heap) n → n < count
  reached_below n (here m from) =
      let there : Contains (map (λ (r : NamedValue). r.value) opening.roots) (Object n) =
      subst (λ vs. Contains vs (Object n)) roots_hold from in
      All-contains (IsBelow count) (map (λ (r : NamedValue). r.value) opening.roots) (Object n)
      (All-map (IsBelow count) (λ (r : NamedValue). r.value) opening.roots is.in_roots) there
  reached_below n (along m k reached refers) =
      let below = reached_below m reached in
      let there : Contains (node_at m).values (Object n) = subst (λ vs. Contains vs (Object n))
      (values_are m below) refers in
      All-contains (IsBelow count) (node_at m).values (Object n)
      (All-get_or
      (λ (x : Node). All (IsBelow count) x.values) opening.nodes m no_node below is.in_nodes) there

not_number : (n : ℕ) → has_number (numbers_to n) n ≡ false
not_number n = elim (has_number (numbers_to n) n) as (λ b. has_number (numbers_to n) n ≡ b → b ≡ false) [
  | true ↦ λ has.
      let (k, within, at) = Contains-from_has_number (numbers_to n) n has in
      let below : k < n = rw (numbers-length n) at within in
      let same : k ≡ n = sym (numbers-at n k n below) ∙ at in
      absurd (omega (arith, below, same))
  | false ↦ λ none. refl
] refl

numbers_once : (n : ℕ) → IsDistinct nat_eq (numbers_to n)
unfolding IsDistinct
numbers_once zero = tt
numbers_once (suc n) = IsDistinct-push nat_eq_equiv (numbers_to n) n (numbers_once n)
    (sym (has_number-any (numbers_to n) n) ∙ not_number n)

-- a value below n is the same by the numbers below n
own_value : (n : ℕ) (v : Value) → IsBelow n v → renumbered (numbers_to n) v ≡ v
own_value n (Object m) below =
    let it = own_place (numbers_to n) (numbers_once n) m m (rw (numbers-length n) below) in
    let at = numbers-at n m m below in
    ap Object (subst (λ k. place_in (numbers_to n) k ≡ m) at it)
own_value n (Int i) below = refl
own_value n (Long i) below = refl
own_value n Null below = refl

own_values : (n : ℕ) (vs : List Value) → All (IsBelow n) vs → map (renumbered (numbers_to n)) vs ≡ vs
own_values n [] all = refl
own_values n (v ∷ vs) all =
    ap (λ x. x ∷ map (renumbered (numbers_to n)) vs) (own_value n v (All-head (IsBelow n) v vs all))
    ∙ ap (λ xs. v ∷ xs) (own_values n vs (All-tail (IsBelow n) v vs all))

-- Another heap whose graph the opening graph is.
module _ (set : SetFacts) (opening : Graph) (is : IsOpening set opening) (other : Heap)
    (sound : IsSound other)
    (canonical : opening ≡ canon_of other) where
  abbrev found : List ℕ
  found = found_from other (root_values other)

  numbering : IsNumbering other (root_values other) found
  numbering = found_from-numbering other (root_values other) sound (root_values-below other sound)

  abbrev anew : Value → Value
  anew = renumbered found

  abbrev at_place : ℕ → ℕ
  at_place = place_in found

  nodes_are : opening.nodes ≡ map (node_of other found) found
  unfolding canon_of
  nodes_are = ap (λ (g : Graph). g.nodes) canonical

  roots_named : opening.roots ≡ map (root_of other found) other.roots
  unfolding canon_of
  roots_named = ap (λ (g : Graph). g.roots) canonical

  count_is : length opening.nodes ≡ length found
  count_is = ap length nodes_are ∙ length-map found (node_of other found)

  values_at : (a : ℕ) → has_number found a ≡ true
      → values_of (first_heap set opening) (at_place a) ≡ map anew (values_of other a)
  values_at a has =
      let (within, at) = place_at found found a 0 has in
      let below : at_place a < length opening.nodes = rw count_is within in
      values_are set opening is (at_place a) below
      ∙ ap (λ nodes. (slice_index_or nodes (at_place a) no_node).values) nodes_are
      ∙ ap (λ (x : Node). x.values) (get_or-map (node_of other found) found (at_place a) 0 no_node within)
      ∙ ap (λ n. (node_of other found n).values) at

  named_values : (rs : List Root) → map (λ (r : NamedValue). r.value) (map (root_of other found) rs)
      ≡ map anew (map (λ (r : Root). slice_index_or other.statics r.at Null) rs)
  named_values [] = refl
  named_values (r ∷ rs) = ap (λ vs. anew (slice_index_or other.statics r.at Null) ∷ vs) (named_values rs)

  roots_are : root_values (first_heap set opening) ≡ map anew (root_values other)
  roots_are = roots_hold set opening is ∙ ap (map (λ (r : NamedValue). r.value)) roots_named
      ∙ named_values other.roots

  holds_anew : (vs : List Value) (a : ℕ) → Contains vs (Object a) → Contains (map anew vs)
      (Object (at_place a))
  holds_anew vs a (k, within, at) = (
    k,
    rw (length-map vs anew) within,
    get_or-map anew vs k (Object a) (Object (at_place a)) within ∙ ap anew at,
  )

  reached_anew : (a : ℕ) → IsReached other (root_values other) a
      → IsReached (first_heap set opening) (root_values (first_heap set opening)) (at_place a)
  reached_anew a (here m from) =
      here (at_place a) (subst (λ vs. Contains vs (Object (at_place a))) (sym roots_are)
      (holds_anew (root_values other) a from))
  reached_anew a (along m k reached refers) =
      let has = has_number-from_Contains found m ((numbering.reached m).1 reached) in
      along (at_place m) (at_place a) (reached_anew m reached)
      (subst (λ vs. Contains vs (Object (at_place a))) (sym (values_at m has))
      (holds_anew (values_of other m) a refers))

  abbrev numbers : List ℕ
  numbers = numbers_to (length opening.nodes)

  number_reached : (n : ℕ) → Contains numbers n → IsReached (first_heap set opening)
      (root_values (first_heap set opening)) n
  number_reached n (k, within, at) =
      let below : k < length opening.nodes = rw (numbers-length (length opening.nodes)) at within in
      let is_k : k ≡ n = sym (numbers-at (length opening.nodes) k n below) ∙ at in
      let inside : k < length found = rw count_is at below in
      let a = slice_index_or found k 0 in
      let reached = (numbering.reached a).0 (Contains-get_or found k 0 inside) in
      subst (λ m. IsReached (first_heap set opening) (root_values (first_heap set opening)) m)
      (own_place found numbering.once k 0 inside ∙ is_k) (reached_anew a reached)

  reached_number : (n : ℕ) → IsReached (first_heap set opening) (root_values (first_heap set opening)) n
      → Contains numbers n
  reached_number n reached =
      let below = reached_below set opening is n reached in
      (n, rw (numbers-length (length opening.nodes)) below, numbers-at (length opening.nodes) n n below)

  abbrev row : List Value
  row = root_values other ++ flat_map (values_of other) found

  map_both : (vs ws : List Value) → map anew vs ++ map anew ws ≡ map anew (vs ++ ws)
  map_both [] ws = refl
  map_both (v ∷ vs) ws = ap (λ xs. anew v ∷ xs) (map_both vs ws)

  flat_anew : (xs : List ℕ) → All (λ a. has_number found a ≡ true) xs
      → flat_map (values_of (first_heap set opening)) (map at_place xs)
      ≡ map anew (flat_map (values_of other) xs)
  flat_anew [] all = refl
  flat_anew (x ∷ xs) all =
      ap (λ vs. vs ++ flat_map (values_of (first_heap set opening)) (map at_place xs))
      (values_at x (All-head (λ a. has_number found a ≡ true) x xs all))
      ∙ ap (λ vs. map anew (values_of other x) ++ vs)
      (flat_anew xs (All-tail (λ a. has_number found a ≡ true) x xs all))
      ∙ map_both (values_of other x) (flat_map (values_of other) xs)

  all_found : All (λ a. has_number found a ≡ true) found
  all_found k d within = has_number-from_Contains found (slice_index_or found k d)
      (Contains-get_or found k d within)

  row_found : AreIn found row
  row_found m there = subst (λ xs. has_number xs m ≡ true) (sym numbering.in_order)
      (with_new-has [] row m there)

  numbers_are : numbers ≡ map at_place found
  numbers_are = ap numbers_to count_is ∙ sym (all_places found numbering.once)

  in_their_order : numbers ≡ with_new [] (root_values (first_heap set opening)
      ++ flat_map (values_of (first_heap set opening)) numbers)
  in_their_order =
      numbers_are
      ∙ ap (map at_place) numbering.in_order
      ∙ sym (new-places found [] row (All-nil (IsIn found)) row_found)
      ∙ ap (with_new []) (sym (map_both (root_values other) (flat_map (values_of other) found)))
      ∙ ap (λ vs. with_new [] (vs ++ map anew (flat_map (values_of other) found))) (sym roots_are)
      ∙ ap (λ vs. with_new [] (root_values (first_heap set opening) ++ vs)) (sym (flat_anew found all_found))
      ∙ ap (λ xs. with_new [] (root_values (first_heap set opening)
      ++ flat_map (values_of (first_heap set opening)) xs)) (sym numbers_are)

  pub numbered : IsNumbering (first_heap set opening) (root_values (first_heap set opening)) numbers
  numbered = record {
    reached = λ n. (number_reached n, reached_number n);
    once = numbers_once (length opening.nodes);
    in_order = in_their_order;
  }

-- The graph by those numbers is the opening graph.
module _ (set : SetFacts) (opening : Graph) (is : IsOpening set opening) where
  abbrev below_count : List ℕ
  below_count = numbers_to (length opening.nodes)

  roots_same : (rs : List Root) → All (λ (r : NamedValue). IsBelow (length opening.nodes) r.value)
      (map (reading set opening is) rs)
      → map (root_of (first_heap set opening) below_count) rs ≡ map (reading set opening is) rs
  unfolding first_heap
  roots_same [] all = refl
  roots_same (r ∷ rs) all =
      let Below : NamedValue → Type 0 = λ (r : NamedValue). IsBelow (length opening.nodes) r.value in
      ap (λ v. record { name = r.name; value = v } ∷ map (root_of (first_heap set opening) below_count) rs)
      (own_value (length opening.nodes) (reading set opening is r).value
      (All-head Below (reading set opening is r) (map (reading set opening is) rs) all))
      ∙ ap (λ xs. reading set opening is r ∷ xs)
      (roots_same rs (All-tail Below (reading set opening is r) (map (reading set opening is) rs) all))

  roots_back : (graph_by (first_heap set opening) below_count).roots ≡ opening.roots
  unfolding first_heap
  roots_back =
      let read = roots_read set opening is opening.roots [] 0 refl refl in
      roots_same (roots_from set opening 0 opening.roots)
      (subst (All (λ (r : NamedValue). IsBelow (length opening.nodes) r.value)) (sym read) is.in_roots) ∙ read

  node_back : (k : ℕ) → k < length opening.nodes
      → node_of (first_heap set opening) below_count k ≡ slice_index_or opening.nodes k no_node
  unfolding first_heap
  node_back k below =
      let n = slice_index_or opening.nodes k no_node in
      let class = class_named (classes_of set) n.shape.name in
      let there : class < length (classes_of set) =
      All-get_or
      (λ (x : Node).
      class_named (classes_of set) x.shape.name < length (classes_of set)) opening.nodes k no_node below is.shapes in
      let object = object_is_node set opening is k below in
      let shape : shape_at (first_heap set opening) (object_at (first_heap set opening) k).shape ≡ n.shape =
      ap (λ (o : Obj). shape_at (first_heap set opening) o.shape) object
      ∙ get_or-map (λ (c : ClassFacts). c.shape) (classes_of set) class no_class no_shape there
      ∙ All-get_or (λ (x : Node). (class_at set (class_named (classes_of set) x.shape.name)).shape
      ≡ x.shape) opening.nodes k no_node below is.agree in
      let values : map (renumbered below_count) (values_of (first_heap set opening) k) ≡ n.values =
      ap (λ (o : Obj). map (renumbered below_count) o.values) object
      ∙ own_values (length opening.nodes) n.values
      (All-get_or
      (λ (x : Node). All
      (IsBelow (length opening.nodes)) x.values) opening.nodes k no_node below is.in_nodes) in
      ap (λ s. record {
        shape = s;
        values = map (renumbered below_count)
            (values_of (first_heap set opening) k);
      }) shape
      ∙ ap (λ vs. record { shape = n.shape; values = vs }) values

  nodes_back : (graph_by (first_heap set opening) below_count).nodes ≡ opening.nodes
  nodes_back = same_lists (map (node_of (first_heap set opening) below_count) below_count) opening.nodes
      (length-map below_count (node_of (first_heap set opening) below_count)
      ∙ numbers-length (length opening.nodes))
      (λ k d within.
      let inside : k < length below_count =
      subst (λ n. k < n)
      (length-map below_count (node_of (first_heap set opening) below_count)) within in
      let below : k < length opening.nodes = rw (numbers-length (length opening.nodes)) at inside in
      get_or-map (node_of (first_heap set opening) below_count) below_count k 0 d inside
      ∙ ap (node_of (first_heap set opening) below_count) (numbers-at (length opening.nodes) k 0 below)
      ∙ node_back k below ∙ get_or_default opening.nodes k no_node d below)

  graph_back : graph_by (first_heap set opening) below_count ≡ opening
  graph_back =
      ap (λ rs. record {
        roots = rs;
        nodes =
            (graph_by (first_heap set opening) below_count).nodes;
      }) roots_back
      ∙ ap (λ ns. record { roots = opening.roots; nodes = ns }) nodes_back

  pub own_graph : IsComplete set → (other : Heap) → IsSound other → opening ≡ canon_of other
      → canon_of (first_heap set opening) ≡ opening
  unfolding canon_of
  own_graph complete other sound canonical =
      let heap = first_heap set opening in
      let first_sound = first_heap_is_sound set opening complete is in
      ap (graph_by heap)
      (sym (found_from-only heap (root_values heap) first_sound (root_values-below heap first_sound)
      below_count (numbered set opening is other sound canonical)))
      ∙ graph_back
