-- Which classes a class is a subtype of.
use Rattle.std.proofs.Common.{◌≡◌, ℕ, zero, suc, ◌+◌, ◌<◌, List, [], ◌∷◌, ◌++◌, Some, None, map, length, slice_index_or, refl}
use Rattle.std.proofs.Common.{ap, sym, ◌∙◌, arith}
use Rattle.std.specs.List.{flat_map}
use Rattle.std.specs.Prelude.{All, Contains}
use Rattle.std.proofs.lemmas.List.{get_or_append_left, length-map, map-append}
use Rattle.std.proofs.lemmas.List.Elements.{All-contains, All-get_or, All-head, All-tail}
use Rattle.graph_model.specs.Heaps.{has_number}
use Rattle.graph_walks.specs.Paths.{next_of}
use Rattle.graph_walks.specs.Order.{walk, walk_from, visits_from}
use Rattle.graph_walks.specs.Reached.{has_vertex}
use Rattle.graph_walks.proofs.Lists.{flat_map-same}
use Rattle.class_file.specs.declared.class.ClassFile.{ClassFile}
use Rattle.plain_model.specs.Classes.{ClassFacts, no_class}
use Rattle.plain_model.specs.BuiltIn.{built_in_classes, array_class}
use Rattle.plain_model.specs.Facts.{classes_of, class_at, interfaces_from, interfaces_of, is_subclass}
use Rattle.built_in_table.specs.Members.{built_in_interfaces}
use Rattle.class_set.specs.Linked.{Linked}
use Rattle.class_set.specs.Members.{interface_numbers, interface_edges, supers_of, superclasses_in, superclasses_of}
use Rattle.class_set.specs.ArrayTypes.{array_type}
use Rattle.class_set.specs.Facts.{class_facts, facts_of, named_classes}
use Rattle.class_set.specs.Tables.{reached_above}
use Rattle.class_set.proofs.Above.{get_or-map_all, supers_counted}
use Rattle.class_set.proofs.Chains.{chain_within, superclasses_listed}
use Rattle.class_set.proofs.Edges.{interfaces_counted, interfaces_within, supers_within}
use Rattle.class_set.proofs.Walks.{reached_has}

abbrev interfaces : ClassFacts → List ℕ
interfaces c = c.interfaces

file_interfaces : (all files : List ClassFile) → map interfaces (map (class_facts all) files) ≡ map (interface_numbers all) files
file_interfaces all [] = refl
file_interfaces all (c ∷ cs) = ap (λ es. interface_numbers all c ∷ es) (file_interfaces all cs)

built_ins : (first : ℕ) → map interfaces (built_in_classes first) ≡ built_in_interfaces first
unfolding built_in_interfaces
built_ins first = refl

named_interfaces : (files : List ClassFile) → map interfaces (named_classes files) ≡ interface_edges files
named_interfaces files =
    map-append interfaces (map (class_facts files) files) (built_in_classes (length files))
    ∙ ap (λ es. es ++ map interfaces (built_in_classes (length files))) (file_interfaces files files)
    ∙ ap (λ es. map (interface_numbers files) files ++ es) (built_ins (length files))

pub program_counted : (all files : List ClassFile) → length (map (class_facts all) files) ≡ length files
program_counted all [] = refl
program_counted all (c ∷ cs) = ap suc (program_counted all cs)

pub classes_listed : (set : Linked) → classes_of (facts_of set)
    ≡ named_classes set.files ++ map (array_class (length set.files)) (map (array_type set.files) set.arrays)
classes_listed set =
    ap (λ n. map (class_facts set.files) set.files ++ built_in_classes n ++ map (array_class n) (map (array_type set.files) set.arrays))
    (program_counted set.files set.files)

-- the superinterfaces of a class that isn't an array type
interfaces_at : (set : Linked) (n : ℕ) → n < length (interface_edges set.files)
    → (class_at (facts_of set) n).interfaces ≡ next_of (interface_edges set.files) n
interfaces_at set n l =
    let named = named_classes set.files in
    let arrays = map (array_class (length set.files)) (map (array_type set.files) set.arrays) in
    let size : length named ≡ length (interface_edges set.files) = sym (length-map named interfaces) ∙ ap length (named_interfaces set.files) in
    ap (λ cs. (slice_index_or cs n no_class).interfaces) (classes_listed set)
    ∙ ap interfaces (get_or_append_left named arrays no_class n (omega (arith, l, size)))
    ∙ sym (get_or-map_all interfaces no_class named n)
    ∙ ap (λ es. slice_index_or es n []) (named_interfaces set.files)

module _ (set : Linked) where
  abbrev edges : List (List ℕ)
  edges = interface_edges set.files

  next_within : (n v : ℕ) → n < length edges → Contains (next_of edges n) v → v < length edges
  next_within n v l c =
      All-contains (λ u. u < length edges) (next_of edges n) v
      (All-get_or (λ next. All (λ (u : ℕ). u < length edges) next) edges n [] l (interfaces_within set.files)) c

  walk_is : (more n : ℕ) → n < length edges → walk_from edges more n ≡ n ∷ interfaces_from (classes_of (facts_of set)) more n
  walk_is zero n l = refl
  walk_is (suc more) n l =
      ap (λ ns. n ∷ ns) (flat_map-same (walk_from edges more) (λ i. i ∷ interfaces_from (classes_of (facts_of set)) more i) (next_of edges n)
      (λ i c. walk_is more i (next_within n i l c))
      ∙ ap (flat_map (λ i. i ∷ interfaces_from (classes_of (facts_of set)) more i)) (sym (interfaces_at set n l)))

  walks_are : (ns : List ℕ) → All (λ (n : ℕ). n < length edges) ns
      → flat_map (walk edges) ns ≡ flat_map (λ n. n ∷ interfaces_of (facts_of set) n) ns
  walks_are [] h = refl
  walks_are (n ∷ ns) h =
      let l : n < length edges = All-head (λ (m : ℕ). m < length edges) n ns h in
      let deep : length edges ≡ length (map (class_facts set.files) set.files) + 28 =
      interfaces_counted set.files ∙ ap (λ m. m + 28) (sym (program_counted set.files set.files)) in
      ap (λ xs. xs ++ flat_map (walk edges) ns) (walk_is (length edges) n l ∙ ap (λ m. n ∷ interfaces_from (classes_of (facts_of set)) m n) deep)
      ∙ ap (λ xs. (n ∷ interfaces_of (facts_of set) n) ++ xs) (walks_are ns (All-tail (λ (m : ℕ). m < length edges) n ns h))

  -- what stands above a class, as a walk finds it
  pub above_has : (n t : ℕ) → n < length edges
      → has_vertex (reached_above edges (supers_of set.files) n).reached t ≡ is_subclass (facts_of set) n t
  above_has n t l =
      let size : length (supers_of set.files) ≡ length edges = supers_counted set.files ∙ sym (interfaces_counted set.files) in
      let m : n < length (supers_of set.files) = omega (arith, l, size) in
      let chain = superclasses_of set.files n in
      let within : (k v : ℕ) → slice_index_or (supers_of set.files) k None ≡ Some v → v < length (supers_of set.files) =
      λ k v at. omega (arith, supers_within set.files k v at, supers_counted set.files) in
      let starts : All (λ (v : ℕ). v < length edges) chain =
      chain_within (supers_of set.files) (length edges) (length set.files + 28) n (λ k v at. omega (arith, within k v at, size)) l in
      ap (λ k. has_vertex (visits_from edges (superclasses_in (supers_of set.files) k n)) t) (supers_counted set.files)
      ∙ reached_has edges (interfaces_of (facts_of set)) chain t (walks_are chain starts)
      ∙ ap (λ ns. has_number (ns ++ flat_map (interfaces_of (facts_of set)) ns) t) (sym (superclasses_listed set n within m))
