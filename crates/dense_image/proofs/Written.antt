-- What an image stands for can be written.
use Rattle.std.proofs.Common.{◌≡◌, ◌≢◌, inl, inr, ℕ, ◌+◌, ◌^◌, ◌<◌, true, false, List, [], ◌∷◌, ◌++◌, length, map}
use Rattle.std.proofs.Common.{Ok, refl, sym, ◌∙◌, ap, subst, arith, slice_index_or, append_assoc, ◌-◌}
use Rattle.std.specs.Prelude.{Result, FitsSigned}
use Rattle.std.specs.Int.{w32, w64, cast_signed}
use Rattle.std.proofs.lemmas.Bool.{cases_eq, cases_lt, ltb-true, false≢true}
use Rattle.std.proofs.lemmas.Int.{ints}
use Rattle.std.proofs.lemmas.List.{append-nil, length-map, length-append, get_or-map, get_or_append_left, get_or-append_right}
use Rattle.ap_base.specs.declared.kind.Kind.{Kind}
use Rattle.ap_base.specs.declared.kind.Kind.TheVariants.{Z, B, C, S, I, J, L, Text}
use Rattle.graph_model.specs.declared.types.Value.{Value}
use Rattle.graph_model.specs.declared.types.Value.TheVariants.{Int, Long, Null, Obj as Object}
use Rattle.graph_model.specs.declared.types.Shape.{Shape}
use Rattle.graph_model.specs.declared.types.NamedValue.{NamedValue}
use Rattle.graph_model.specs.declared.types.Graph.{Graph}
use Rattle.graph_model.specs.Heaps.{no_shape, values_of}
use Rattle.image_meaning.specs.Checks.{Words, Bad}
use Rattle.image_meaning.specs.Entries.{DirectoryEntry, ShapeEntry, RootEntry, IsShape}
use Rattle.image_meaning.specs.Directories.{Directory, no_entries, has_name, with_entry, with_all, AreEntries, directory_of}
use Rattle.image_meaning.specs.Directories.{directory_words_of, spelled_all}
use Rattle.image_meaning.specs.Logs.{put_back}
use Rattle.image_meaning.specs.Objects.{kind_of, shape_number}
use Rattle.image_meaning.specs.Meaning.{StandsFor, empty_graph, meaning, node_at}
use Rattle.image_meaning.specs.Corresponds.{HoldsReference, Holds, IsObject, Corresponds, root_value_at}
use Rattle.image_meaning.specs.Opening.{graph_node, found_at, FoundImage}
use Rattle.image_meaning.proofs.Directories.{entries-taken}
use Rattle.image_meaning.proofs.Order.{blank-stands}
use Rattle.image_meaning.proofs.Standing.{standing-sized}
use Rattle.image_meaning.proofs.Standings.{standing-found, canon-standing}
use Rattle.dense_image.specs.Graphs.{IsReference, CanHold, IsNode, root_entry, root_value_of, CanBeStoodFor}
use Rattle.dense_image.specs.Written.{names_of}
use Rattle.dense_image.proofs.Heaps.{heap_of, root_count, heap_holds}
use Rattle.dense_image.proofs.Shapes.{has_at}

-- ---- values

module _ (lines : List ℕ) (nodes : ℕ) (few : length lines ≡ nodes) where
  refers : (w : ℕ) (value : Value) → HoldsReference (found_at lines) w value → IsReference nodes value
  refers w Null held = tt
  refers w (Object n) held = omega (arith, held.2.0, few)
  refers w (Int i) held = absurd held
  refers w (Long i) held = absurd held

  int_fits : (w : ℕ) → w < 2 ^ 32 → FitsSigned w32 (cast_signed w32 w)
  int_fits w h = omega (arith, ints)

  long_fits : (w : ℕ) → w < 2 ^ 64 → FitsSigned w64 (cast_signed w64 w)
  long_fits w h = omega (arith, ints)

  can_hold : (kind : Kind) (w : ℕ) (value : Value) → Holds (found_at lines) kind w value → CanHold nodes kind value
  can_hold L w value held = refers w value held
  can_hold Z w value held = rw held.1 (w, refl, ltb-true w 2 held.0)
  can_hold C w value held = rw held.1 (w, refl, ltb-true w (2 ^ 16) held.0)
  can_hold Text w value held = rw held.1 (w, refl, ltb-true w (2 ^ 16) held.0)
  can_hold B w value held = rw held.1 (int_fits w (ltb-true w (2 ^ 32) held.0))
  can_hold S w value held = rw held.1 (int_fits w (ltb-true w (2 ^ 32) held.0))
  can_hold I w value held = rw held.1 (int_fits w (ltb-true w (2 ^ 32) held.0))
  can_hold J w value held = rw held.1 (long_fits w (ltb-true w (2 ^ 64) held.0))

-- ---- the directory

roots_in : List DirectoryEntry → List (List ℕ)
roots_in [] = []
roots_in (ShapeEntry shape ∷ entries) = roots_in entries
roots_in (RootEntry name ∷ entries) = name ∷ roots_in entries

roots_taken : (directory : Directory) (entries : List DirectoryEntry) → (with_all directory entries).roots ≡ directory.roots ++ roots_in entries
unfolding roots_in
roots_taken directory [] = sym (append-nil directory.roots)
roots_taken directory (ShapeEntry shape ∷ entries) = roots_taken (with_entry directory (ShapeEntry shape)) entries
roots_taken directory (RootEntry name ∷ entries) =
    roots_taken (with_entry directory (RootEntry name)) entries ∙ append_assoc directory.roots (name ∷ []) (roots_in entries)

-- the roots may stand without the shapes
roots_alone : (a b : List Shape) (roots : List (List ℕ)) (entries : List DirectoryEntry)
    → AreEntries (record { shapes = a; roots = roots }) entries
    → AreEntries (record { shapes = b; roots = roots }) (map RootEntry (roots_in entries))
unfolding roots_in
roots_alone a b roots [] are = tt
roots_alone a b roots (ShapeEntry shape ∷ entries) are = roots_alone (a ++ shape ∷ []) b roots entries are.2
roots_alone a b roots (RootEntry name ∷ entries) are = (are.0, are.1, roots_alone a b (roots ++ name ∷ []) entries are.2)

root_entries : (roots : List NamedValue) → map root_entry roots ≡ map RootEntry (map (λ (root : NamedValue). root.name) roots)
root_entries [] = refl
root_entries (root ∷ roots) = ap (λ rest. RootEntry root.name ∷ rest) (root_entries roots)

-- Each shape is one that a directory can have, and no two have one name.
record AreShapes (shapes : List Shape) : Type 0 where
  each : (k : ℕ) → k < length shapes → IsShape (slice_index_or shapes k no_shape)
  once : (i j : ℕ) → i < length shapes → j < length shapes
      → (slice_index_or shapes i no_shape).name ≡ (slice_index_or shapes j no_shape).name → i ≡ j

no_shapes : AreShapes []
no_shapes = record { each = λ k h. absurd (omega (arith, h)); once = λ i j x y e. absurd (omega (arith, x)) }

at_front : (shapes : List Shape) (shape : Shape) (k : ℕ) → k < length shapes
    → slice_index_or (shapes ++ shape ∷ []) k no_shape ≡ slice_index_or shapes k no_shape
at_front shapes shape k h = get_or_append_left shapes (shape ∷ []) no_shape k h

at_end : (shapes : List Shape) (shape : Shape) → slice_index_or (shapes ++ shape ∷ []) (length shapes) no_shape ≡ shape
at_end shapes shape =
    get_or-append_right shapes (shape ∷ []) (length shapes) (length shapes) no_shape refl (omega arith)
    ∙ ap (λ k. slice_index_or (shape ∷ []) k no_shape) (let z : length shapes - length shapes ≡ 0 = omega arith in z)

has_here : (shapes : List Shape) (k : ℕ) (name : List ℕ) → k < length shapes → (slice_index_or shapes k no_shape).name ≡ name
    → has_name (names_of shapes) name ≡ true
has_here shapes k name h e =
    has_at (names_of shapes) k name (omega (arith, h, length-map shapes (λ (s : Shape). s.name)))
    (get_or-map (λ (s : Shape). s.name) shapes k no_shape [] h ∙ e)

one_more_shape : (shapes : List Shape) (shape : Shape) → AreShapes shapes → IsShape shape → has_name (names_of shapes) shape.name ≡ false
    → AreShapes (shapes ++ shape ∷ [])
one_more_shape shapes shape are is new =
    let count : length (shapes ++ shape ∷ []) ≡ length shapes + 1 = length-append shapes (shape ∷ []) in
    record {
      each = λ k h. elim (cases_lt k (length shapes)) [
        | inl below ↦ rw (at_front shapes shape k below) (are.each k below)
        | inr from ↦ (let last : k ≡ length shapes = omega (arith, from, h, count) in rw (last, at_end shapes shape) is)
      ];
      once = λ i j x y e. elim (cases_lt i (length shapes)) [
        | inl i_below ↦ elim (cases_lt j (length shapes)) [
          | inl j_below ↦ are.once i j i_below j_below
              (ap (λ (s : Shape). s.name) (sym (at_front shapes shape i i_below)) ∙ e ∙ ap (λ (s : Shape). s.name) (at_front shapes shape j j_below))
          | inr from ↦ (
              let last : j ≡ length shapes = omega (arith, from, y, count) in
              let end = rw last at e in
              absurd (false≢true (sym new ∙ has_here shapes i shape.name i_below
              (ap (λ (s : Shape). s.name) (sym (at_front shapes shape i i_below)) ∙ end ∙ ap (λ (s : Shape). s.name) (at_end shapes shape)))))
        ]
        | inr i_from ↦ elim (cases_lt j (length shapes)) [
          | inl j_below ↦ (
              let last : i ≡ length shapes = omega (arith, i_from, x, count) in
              let end = rw last at e in
              absurd (false≢true (sym new ∙ has_here shapes j shape.name j_below
              (ap (λ (s : Shape). s.name) (sym (at_front shapes shape j j_below)) ∙ sym end ∙ ap (λ (s : Shape). s.name) (at_end shapes shape)))))
          | inr from ↦ omega (arith, i_from, from, x, y, count)
        ]
      ];
    }

shapes_taken : (directory : Directory) (entries : List DirectoryEntry) → AreShapes directory.shapes → AreEntries directory entries
    → AreShapes (with_all directory entries).shapes
shapes_taken directory [] so_far are = so_far
shapes_taken directory (ShapeEntry shape ∷ entries) so_far are =
    shapes_taken (with_entry directory (ShapeEntry shape)) entries (one_more_shape directory.shapes shape so_far are.0 are.1) are.2
shapes_taken directory (RootEntry name ∷ entries) so_far are = shapes_taken (with_entry directory (RootEntry name)) entries so_far are.2

-- ---- an image that isn't blank

module _ (size : ℕ) (words : Words) (graph : Graph) (used : words 0 0 ≢ 0) (stand : StandsFor size words graph) where
  abbrev found : FoundImage size words graph
  found = standing-found size words graph used stand

  corresponding : Corresponds (found_at found.lines) found.directory size (put_back words) (heap_of graph)
  corresponding = found.corresponds (heap_of graph) (heap_holds graph)

  line_count : length found.lines ≡ length graph.nodes
  line_count =
      sym (length-map found.lines (node_at found.directory.shapes (put_back words) found.lines))
      ∙ ap (λ (g : Graph). length g.nodes) found.gives

  taken : (entries : List DirectoryEntry) × (directory_words_of words (words 0 3) ≡ spelled_all entries) × AreEntries no_entries entries
      × (found.directory ≡ with_all no_entries entries)
  unfolding directory_of
  taken = entries-taken (words 0 3) 0 no_entries found.directory (directory_words_of words (words 0 3)) found.finds.opens.entries

  are_shapes : AreShapes found.directory.shapes
  are_shapes = subst (λ (d : Directory). AreShapes d.shapes) (sym taken.3) (shapes_taken no_entries taken.0 no_shapes taken.2)

  names_are : AreEntries no_entries (map root_entry graph.roots)
  names_are =
      let names : map (λ (root : NamedValue). root.name) graph.roots ≡ roots_in taken.0 =
      sym (heap_holds graph).names ∙ corresponding.names ∙ ap (λ (d : Directory). d.roots) taken.3 ∙ roots_taken no_entries taken.0 in
      rw (root_entries graph.roots, names) (roots_alone [] [] [] taken.0 taken.2)

  root_refers : (r : ℕ) → r < length graph.roots → IsReference (length graph.nodes) (root_value_of graph r)
  root_refers r h =
      let value : root_value_at (heap_of graph) r ≡ root_value_of graph r = ap (λ (vs : List Value). slice_index_or vs r Null) (heap_holds graph).values in
      let there : r < length (heap_of graph).roots = omega (arith, h, root_count graph) in
      refers found.lines (length graph.nodes) line_count _ (root_value_of graph r) (rw value at (corresponding.at_roots r there))

  abbrev line_at : ℕ → ℕ
  line_at n = slice_index_or found.lines n 0

  object_at_line : (n : ℕ) → n < length graph.nodes
      → IsObject (found_at found.lines) found.directory.shapes size (put_back words) (heap_of graph) (line_at n) n
  object_at_line n h = corresponding.objects (line_at n) n (omega (arith, h, line_count), refl)

  -- the shape of node n is that of its number
  shape_here : (n : ℕ) → n < length graph.nodes
      → slice_index_or found.directory.shapes (shape_number (put_back words) (line_at n)) no_shape ≡ (graph_node graph n).shape
  shape_here n h = (object_at_line n h).shape ∙ (heap_holds graph).shapes n h

  node_is : (n : ℕ) → n < length graph.nodes → IsNode (length graph.nodes) (graph_node graph n)
  node_is n h =
      let o = object_at_line n h in
      let values = (heap_holds graph).slots n h in
      let full = rw (shape_here n h, values) at o.full in
      record {
        shape = subst IsShape (shape_here n h) (are_shapes.each (shape_number (put_back words) (line_at n)) o.known);
        full = full;
        slots = λ i below.
            let within : i < length (values_of (heap_of graph) n) = rw values below in
            let held = o.slots i within refl in
            let there = rw (shape_here n h, values) at held in
            can_hold found.lines (length graph.nodes) line_count (kind_of (graph_node graph n).shape i) _
            (slice_index_or (graph_node graph n).values i Null) there;
      }

  pub can_again : CanBeStoodFor graph
  can_again = record {
    canonical = λ heap holds. canon-standing size words graph heap stand holds;
    names = names_are;
    roots = root_refers;
    nodes = node_is;
    one_shape = λ m n x y e.
        let number = are_shapes.once (shape_number (put_back words) (line_at m)) (shape_number (put_back words) (line_at n))
        (object_at_line m x).known (object_at_line n y).known
        (ap (λ (s : Shape). s.name) (shape_here m x) ∙ e ∙ ap (λ (s : Shape). s.name) (sym (shape_here n y))) in
        sym (shape_here m x) ∙ ap (λ k. slice_index_or found.directory.shapes k no_shape) number ∙ shape_here n y;
  }

-- ---- any image

ok_same : {A : Type 0} (r : Result A Bad) (x y : A) → r ≡ Ok x → r ≡ Ok y → x ≡ y
ok_same {A} r x y a b = let left : Result A Bad = Ok x in let e : left ≡ Ok y = sym a ∙ b in cc

pub can_be_stood_for : (size : ℕ) (words : Words) (graph : Graph) → StandsFor size words graph → CanBeStoodFor graph
can_be_stood_for size words graph stand = elim (cases_eq (words 0 0) 0) [
  | inl blank ↦ (
      let empty : empty_graph ≡ graph =
      ok_same (meaning size words) empty_graph graph (blank-stands size words (standing-sized size words graph stand, blank)) stand in
      let none : CanBeStoodFor empty_graph = record {
        canonical = λ heap holds.
            canon-standing size words empty_graph heap (subst (λ g. StandsFor size words g) (sym empty) stand) holds;
        names = tt;
        roots = λ r h. absurd (omega (arith, h));
        nodes = λ n h. absurd (omega (arith, h));
        one_shape = λ m n x y e. absurd (omega (arith, x));
      } in
      subst CanBeStoodFor empty none)
  | inr used ↦ can_again size words graph used stand
]
