-- The first free line of a dense image.
use Rattle.std.proofs.Common.{◌≡◌, ◌⊎◌, inl, inr, ℕ, zero, suc, ◌+◌, ◌<◌, ◌≤◌, Bool, true, false, List, [], ◌∷◌, ◌++◌, length}
use Rattle.std.proofs.Common.{Ok, refl, sym, ◌∙◌, ap, subst, arith, nat_eq, if◌then◌else◌}
use Rattle.std.specs.Prelude.{Result}
use Rattle.std.specs.List.{IsDistinct}
use Rattle.std.proofs.lemmas.Bool.{cases_eq, ne_eqb, false≢true}
use Rattle.std.proofs.lemmas.List.{length-map, length-append}
use Rattle.std.proofs.lemmas.Map.Steps.{length-le_from_distinct_below}
use Rattle.graph_model.specs.declared.types.Value.{Value}
use Rattle.graph_model.specs.declared.types.Graph.{Graph}
use Rattle.graph_model.specs.declared.types.Heap.{Heap}
use Rattle.graph_model.specs.Heaps.{has_number, root_values}
use Rattle.graph_model.specs.Canon.{with_number, found_from, node_of, canon_of}
use Rattle.graph_model.proofs.Numbers.{has_number-any, with_number-distinct, with_number-only}
use Rattle.graph_model.proofs.FoundAfter.{found_after-distinct}
use Rattle.image_layout.specs.Places.{min_lines, max_lines, first_object_line, lines_of}
use Rattle.image_meaning.specs.Checks.{Words, Bad}
use Rattle.image_meaning.specs.Directories.{Directory, directory_of}
use Rattle.image_meaning.specs.Logs.{put_back}
use Rattle.image_meaning.specs.Objects.{length_at}
use Rattle.image_meaning.specs.Meaning.{root_values_of, walk}
use Rattle.image_meaning.specs.Corresponds.{Corresponds}
use Rattle.image_meaning.specs.Opening.{graph_node, free_line}
use Rattle.image_meaning.proofs.Pairs.{Pairs, none_left, pair, pairs-line}
use Rattle.image_meaning.proofs.Stands.{found_all}
use Rattle.dense_image.specs.Graphs.{CanBeStoodFor}
use Rattle.dense_image.specs.Written.{lines_taken, line_of_node, end_line, IsWritten, HasRoom, IsDense, IsWhole}
use Rattle.dense_image.proofs.Heaps.{heap_of, heap_holds}
use Rattle.dense_image.proofs.Lines.{ends_within, ends_last}
use Rattle.dense_image.proofs.Standing.{node_at, directory, opens, corresponds_back, stood_for}

-- ---- numbers below n, each once, and n of them: each is there

true_or : (b : Bool) → (b ≡ true) ⊎ (b ≡ false)
true_or true = inl refl
true_or false = inr refl

all_there : (numbers : List ℕ) (k : ℕ) → IsDistinct nat_eq numbers → ((q : ℕ) → has_number numbers q ≡ true → q < length numbers)
    → k < length numbers → has_number numbers k ≡ true
all_there numbers k distinct below h = elim (true_or (has_number numbers k)) [
  | inl there ↦ there
  | inr missing ↦ absurd (
      let more : List ℕ = with_number numbers k in
      let longer : length more ≡ length numbers + 1 =
      ap (λ b. length (if b then numbers else numbers ++ k ∷ [])) missing ∙ length-append numbers (k ∷ []) in
      let few : length more ≤ length numbers =
      length-le_from_distinct_below more (length numbers) (with_number-distinct numbers k distinct)
      (λ q there. with_number-only (λ q. q < length numbers) numbers k below h q (has_number-any more q ∙ there)) in
      omega (arith, longer, few))
]

-- ---- lines

module _ (graph : Graph) (words : Words)
    (count : (n : ℕ) → n < length graph.nodes → length_at words (line_of_node graph n) ≡ length (graph_node graph n).values) where
  free_high : {lines numbers : List ℕ} → Pairs (node_at graph) lines numbers → free_line words lines ≤ end_line graph
  free_high none_left = omega arith
  free_high (pair {a = a} {n = n} r rest) =
      let here : a + lines_of (length_at words a) ≤ end_line graph =
      rw (r.1, count n r.0) (ends_within graph n r.0) in
      omega (arith, here, free_high rest)

  free_low : {lines numbers : List ℕ} (n : ℕ) → Pairs (node_at graph) lines numbers → has_number numbers n ≡ true
      → line_of_node graph n + lines_of (length (graph_node graph n).values) ≤ free_line words lines
  free_low n none_left h = absurd (false≢true h)
  free_low n (pair {a = a} {n = m} {lines = lines} r rest) h = elim (cases_eq m n) [
    | inl e ↦ (
        let here : a + lines_of (length_at words a) ≡ line_of_node graph m + lines_of (length (graph_node graph m).values) =
        rw (r.1, count m r.0) refl in
        subst (λ k. line_of_node graph k + lines_of (length (graph_node graph k).values) ≤ free_line words (a ∷ lines)) e (omega (arith, here)))
    | inr d ↦ (let f = ne_eqb m n d in let more = free_low n rest (rw f at h) in omega (arith, more))
  ]

  free_least : (lines : List ℕ) → first_object_line ≤ free_line words lines
  free_least [] = omega arith
  free_least (line ∷ lines) = omega (arith, free_least lines)

  free_is : {lines numbers : List ℕ} → Pairs (node_at graph) lines numbers
      → ((k : ℕ) → k < length graph.nodes → has_number numbers k ≡ true) → (N : ℕ) → N ≡ length graph.nodes
      → free_line words lines ≡ end_line graph
  free_is {lines = lines} p all zero none =
      let empty : lines_taken graph.nodes ≡ 0 = elim graph.nodes as (λ nodes. 0 ≡ length nodes → lines_taken nodes ≡ 0)
      [ [] ↦ λ e. refl | node ∷ nodes ↦ λ e. absurd (omega (arith, e)) ] none in
      omega (arith, free_high p, free_least lines, empty)
  free_is p all (suc k) last = omega (arith, free_high p, free_low k p (all k (omega (arith, last))), ends_last graph k last)

ok_same : {A : Type 0} (r : Result A Bad) (x y : A) → r ≡ Ok x → r ≡ Ok y → x ≡ y
ok_same {A} r x y a b = let left : Result A Bad = Ok x in let e : left ≡ Ok y = sym a ∙ b in cc

module _ (size : ℕ) (words : Words) (graph : Graph) (enough : min_lines ≤ size) (most : size ≤ max_lines) (can : CanBeStoodFor graph)
    (room : HasRoom size graph) (is : IsWritten size words graph) where
  the_heap : Heap
  the_heap = heap_of graph

  abbrev here : Directory
  here = directory size words graph enough most can room is

  corresponding : Corresponds (node_at graph) here size (put_back words) (heap_of graph)
  corresponding = corresponds_back size words graph enough most can room is

  abbrev numbers : List ℕ
  numbers = found_from (heap_of graph) (root_values (heap_of graph))

  number_count : length numbers ≡ length graph.nodes
  unfolding canon_of
  number_count =
      sym (length-map numbers (node_of (heap_of graph) numbers))
      ∙ ap (λ (g : Graph). length g.nodes) (can.canonical (heap_of graph) (heap_holds graph))

  counted : (n : ℕ) → n < length graph.nodes → length_at (put_back words) (line_of_node graph n) ≡ length (graph_node graph n).values
  counted n h =
      (corresponding.objects (line_of_node graph n) n (h, refl)).count
      ∙ ap (λ (vs : List Value). length vs) ((heap_holds graph).slots n h)

  numbers_once : IsDistinct nat_eq numbers
  unfolding found_from
  numbers_once = found_after-distinct (heap_of graph) (root_values (heap_of graph)) (length (heap_of graph).objects)

  dense : IsDense size words graph
  dense other lines finds =
      let found = found_all (node_at graph) here size (put_back words) (heap_of graph) corresponding in
      let same : other ≡ here =
      ok_same (directory_of words) other here finds.opens.entries (opens size words graph enough most can room is).entries in
      let walked = subst (λ (d : Directory). walk d.shapes size (put_back words) (root_values_of (put_back words) (length d.roots)) size ≡ Ok lines)
      same finds.walk in
      let lines_same : found.0 ≡ lines =
      ok_same (walk here.shapes size (put_back words) (root_values_of (put_back words) (length here.roots)) size) found.0 lines found.1 walked in
      let p : Pairs (node_at graph) lines numbers = subst (λ ls. Pairs (node_at graph) ls numbers) lines_same found.2 in
      let below : (q : ℕ) → has_number numbers q ≡ true → q < length numbers =
      λ q there. (let at = pairs-line (node_at graph) corresponding.one_object corresponding.one_line q p there in omega (arith, at.1, number_count)) in
      free_is graph (put_back words) counted p
      (λ k h. all_there numbers k numbers_once below (omega (arith, h, number_count))) (length graph.nodes) refl

  pub whole : IsWhole size words graph
  whole = record {
    written = is;
    well_formed = (λ z. absurd (omega (arith, z, is.begins)), graph, stood_for size words graph enough most can room is);
    stands = stood_for size words graph enough most can room is;
    dense = dense;
  }
