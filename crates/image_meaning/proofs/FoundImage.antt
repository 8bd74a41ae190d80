-- What is found in an image corresponds to each heap that holds its graph.
use Rattle.std.proofs.Common.{◌≡◌, ◌≢◌, inl, inr, ℕ, ◌+◌, ◌<◌, ◌≤◌, Bool, true, false, List, [], ◌∷◌, length, map, take, None}
use Rattle.std.proofs.Common.{Ok, refl, sym, ◌∙◌, ap, subst, arith, slice_index_or}
use Rattle.std.specs.List.{range_with_len, list_any}
use Rattle.std.proofs.lemmas.Bool.{cases_lt}
use Rattle.std.proofs.lemmas.List.{get_or-map, get_or-take, length-map, length-take, map-id}
use Rattle.std.proofs.lemmas.List.FromFn.{length-map-range_with_len, get_or-map-range_with_len}
use Rattle.std.proofs.lemmas.List.Folds.{list_any_at}
use Rattle.graph_model.specs.declared.types.Value.{Value}
use Rattle.graph_model.specs.declared.types.Value.TheVariants.{Null}
use Rattle.graph_model.specs.declared.types.Root.{Root}
use Rattle.graph_model.specs.declared.types.NamedValue.{NamedValue}
use Rattle.graph_model.specs.declared.types.Node.{Node}
use Rattle.graph_model.specs.declared.types.Heap.{Heap}
use Rattle.graph_model.specs.declared.types.Graph.{Graph}
use Rattle.graph_model.specs.Heaps.{values_of}
use Rattle.graph_model.specs.Canon.{renumbered}
use Rattle.graph_model.proofs.Numbers.{has_number-from_Contains}
use Rattle.std.proofs.lemmas.List.Elements.{Contains-get_or}
use Rattle.image_layout.specs.Places.{root_slots, first_object_line}
use Rattle.image_meaning.specs.Checks.{Words}
use Rattle.image_meaning.specs.Directories.{Directory, no_entries, directory_of, directory_words_of}
use Rattle.image_meaning.specs.Objects.{value_of, shape_of, length_at, object_slot, kind_of, values_at, is_within}
use Rattle.image_meaning.specs.Meaning.{roots_fault, root_value, root_values_of, walk, root_at, node_at, graph_found}
use Rattle.image_meaning.specs.Corresponds.{IsObject, AreApart, Corresponds, root_value_at}
use Rattle.image_meaning.specs.Opening.{no_node, graph_node, HoldsGraph, found_at}
use Rattle.image_meaning.proofs.Directories.{entries-taken, roots-few}
use Rattle.image_meaning.proofs.Ranges.{get_or_any, mapped_alike}
use Rattle.image_meaning.proofs.Steps.{Gone, all_gone}
use Rattle.image_meaning.proofs.Opening.{ObjectPasses, object_passed, values_in_image, roots_in_image, root_unused, root_held}
use Rattle.image_meaning.proofs.Opening.{slot_held, one_number, apart_from_free}

not_if : (b c : Bool) → (b ≡ true → c ≡ true) → c ≡ false → b ≡ false
not_if true c f none = absurd (let e : true ≡ false = sym (f refl) ∙ none in cc)
not_if false c f none = refl

-- where a line is in none of these objects, it is not in the m-th
free_of : (words : Words) (earlier : List ℕ) (line m a : ℕ) → m < length earlier → slice_index_or earlier m 0 ≡ a
    → list_any (is_within words line) earlier ≡ false → is_within words line a ≡ false
free_of words earlier line m a h e none =
    not_if (is_within words line a) (list_any (is_within words line) earlier)
    (λ yes. list_any_at (is_within words line) earlier m 0 h (ap (is_within words line) e ∙ yes)) none

pub directory-few : (words : Words) (directory : Directory) → directory_of words ≡ Ok directory → length directory.roots ≤ root_slots
unfolding directory_of
directory-few words directory h =
    let taken = entries-taken (words 0 3) 0 no_entries directory (directory_words_of words (words 0 3)) h in
    let few = roots-few no_entries taken.0 taken.2 (omega arith) in
    rw taken.3 few

module _ (size : ℕ) (words : Words) (directory : Directory) (lines : List ℕ) (few : length directory.roots ≤ root_slots)
    (roots : roots_fault size words (length directory.roots) ≡ None)
    (walked : walk directory.shapes size words (root_values_of words (length directory.roots)) size ≡ Ok lines) where
  abbrev the_graph : Graph
  the_graph = graph_found directory words lines

  gone : (length lines ≤ size)
      × Gone directory.shapes size words (root_values_of words (length directory.roots))
      (roots_in_image size words (length directory.roots) roots few) (values_in_image directory.shapes size words) size lines
  gone =
      all_gone directory.shapes size words (root_values_of words (length directory.roots))
      (roots_in_image size words (length directory.roots) roots few) (values_in_image directory.shapes size words) lines walked

  passes : (n : ℕ) → n < length lines → ObjectPasses directory.shapes size words (take n lines) (slice_index_or lines n 0)
  passes n h =
      object_passed directory.shapes size words (take n lines) (slice_index_or lines n 0)
      (gone.1.checked n (omega (arith, h, gone.0)) h)

  node_count : length the_graph.nodes ≡ length lines
  node_count = length-map lines (node_at directory.shapes words lines)

  node_read : (n : ℕ) → n < length lines → graph_node the_graph n ≡ node_at directory.shapes words lines (slice_index_or lines n 0)
  node_read n h = get_or-map (node_at directory.shapes words lines) lines n 0 no_node h

  low_line : (n : ℕ) → n < length lines → first_object_line ≤ slice_index_or lines n 0
  low_line n h =
      (gone.1.within (slice_index_or lines n 0) (has_number-from_Contains lines (slice_index_or lines n 0) (Contains-get_or lines n 0 h))).0

  values_count : (line : ℕ) → length (values_at directory.shapes words line) ≡ length_at words line
  values_count line =
      length-map-range_with_len (λ i. value_of (kind_of (shape_of directory.shapes words line) i) (object_slot words line i)) 0 (length_at words line)

  value_read : (line i : ℕ) → i < length_at words line
      → slice_index_or (map (renumbered lines) (values_at directory.shapes words line)) i Null
      ≡ renumbered lines (value_of (kind_of (shape_of directory.shapes words line) i) (object_slot words line i))
  value_read line i h =
      let within : i < length (values_at directory.shapes words line) = rw (values_count line) h in
      get_or-map (renumbered lines) (values_at directory.shapes words line) i Null Null within
      ∙ ap (renumbered lines) (get_or-map-range_with_len (λ i. value_of (kind_of (shape_of directory.shapes words line) i) (object_slot words line i)) 0
      (length_at words line) i i Null h (omega arith))

  apart_before : (m n : ℕ) → m < n → n < length lines → AreApart words (slice_index_or lines m 0) (slice_index_or lines n 0)
  apart_before m n before h =
      let a = slice_index_or lines m 0 in
      let b = slice_index_or lines n 0 in
      apart_from_free words a b (λ j below. free_of words (take n lines) (b + j) m a
      (omega (arith, before, h, length-take n lines)) (get_or-take n lines m 0 before) ((passes n h).free j below))

  module _ (heap : Heap) (holds : HoldsGraph heap the_graph) where
    object_values : (n : ℕ) → n < length lines
        → values_of heap n ≡ map (renumbered lines) (values_at directory.shapes words (slice_index_or lines n 0))
    object_values n h =
        holds.slots n (rw node_count h) ∙ ap (λ (node : Node). node.values) (node_read n h)

    object_count : (n : ℕ) → n < length lines → length_at words (slice_index_or lines n 0) ≡ length (values_of heap n)
    object_count n h =
        let line = slice_index_or lines n 0 in
        sym (ap (λ (vs : List Value). length vs) (object_values n h) ∙ length-map (values_at directory.shapes words line) (renumbered lines) ∙ values_count line)

    object_found : (n : ℕ) → n < length lines → IsObject (found_at lines) directory.shapes size words heap (slice_index_or lines n 0) n
    object_found n h =
        let line = slice_index_or lines n 0 in
        let p = passes n h in
        let count = object_count n h in
        record {
          there = omega (arith, h, holds.many, node_count);
          known = p.known;
          shape = sym (holds.shapes n (rw node_count h) ∙ ap (λ (node : Node). node.shape) (node_read n h));
          count = count;
          full = rw count at p.full;
          low = low_line n h;
          high = rw count at p.high;
          slots = λ i below kept.
              let within : i < length_at words line = rw count below in
              let held : slice_index_or (values_of heap n) i Null ≡ renumbered lines (value_of (kind_of (shape_of directory.shapes words line) i) (object_slot words line i)) =
              ap (λ (vs : List Value). slice_index_or vs i Null) (object_values n h) ∙ value_read line i within in
              rw held (slot_held directory.shapes size words (take n lines) lines line p (gone.1.met n (omega (arith, h, gone.0)) h) i within);
        }

    names_are : map (λ (root : Root). root.name) heap.roots ≡ directory.roots
    names_are =
        holds.names
        ∙ names_read (range_with_len 0 (length directory.roots))
        ∙ mapped_alike (λ r. slice_index_or directory.roots r []) (λ (name : List ℕ). name) 0 directory.roots
        (λ j d h. let e : 0 + j ≡ j = omega arith in rw e (get_or_any directory.roots j [] d h))
        ∙ map-id directory.roots
      where
        names_read : (rs : List ℕ) → map (λ (root : NamedValue). root.name) (map (root_at words directory.roots lines) rs)
            ≡ map (λ r. slice_index_or directory.roots r []) rs
        names_read [] = refl
        names_read (r ∷ rs) = ap (λ rest. slice_index_or directory.roots r [] ∷ rest) (names_read rs)

    names_count : length heap.roots ≡ length directory.roots
    names_count = sym (length-map heap.roots (λ (root : Root). root.name)) ∙ ap (λ names. length names) names_are

    root_found : (r : ℕ) → r < length directory.roots → root_value_at heap r ≡ renumbered lines (root_value words r)
    root_found r h =
        let at = get_or-map-range_with_len (root_at words directory.roots lines) 0 (length directory.roots) r r
        (record { name = []; value = Null }) h (omega arith) in
        let count : length (map (root_at words directory.roots lines) (range_with_len 0 (length directory.roots))) ≡ length directory.roots =
        length-map-range_with_len (root_at words directory.roots lines) 0 (length directory.roots) in
        ap (λ (vs : List Value). slice_index_or vs r Null) holds.values
        ∙ get_or-map (λ (root : NamedValue). root.value) the_graph.roots r (record { name = []; value = Null }) Null (rw count h)
        ∙ ap (λ (root : NamedValue). root.value) at

    pub corresponds-found : Corresponds (found_at lines) directory size words heap
    corresponds-found = record {
      one_object = λ line m n x y. one_number lines gone.1.once m n x.0 y.0 (x.1 ∙ sym y.1);
      one_line = λ a b n x y. sym x.1 ∙ y.1;
      objects = λ line n x. subst (λ l. IsObject (found_at lines) directory.shapes size words heap l n) x.1 (object_found n x.0);
      apart = λ a b m n x y ne. apart_of a b m n x y ne;
      few = rw names_count few;
      names = names_are;
      at_roots = λ r h.
          let below : r < length directory.roots = rw names_count at h in
          rw (root_found r below) (root_held size words lines (length directory.roots) roots few gone.1.started r below);
      unused = λ r from below. root_unused size words (length directory.roots) roots r (rw names_count at from) below;
    }
      where
        swapped : (a b : ℕ) → AreApart words a b → AreApart words b a
        swapped a b (inl before) = inr before
        swapped a b (inr after) = inl after

        apart_of : (a b m n : ℕ) → found_at lines a m → found_at lines b n → a ≢ b → AreApart words a b
        apart_of a b m n x y ne = rw (← x.1, ← y.1) (elim (cases_lt m n) [
          | inl before ↦ apart_before m n before y.0
          | inr from ↦ elim (cases_lt n m) [
            | inl before ↦ swapped (slice_index_or lines n 0) (slice_index_or lines m 0) (apart_before n m before x.0)
            | inr past ↦ absurd (let same : m ≡ n = omega (arith, from, past) in
                ne (sym x.1 ∙ ap (λ k. slice_index_or lines k 0) same ∙ y.1))
          ]
        ])
