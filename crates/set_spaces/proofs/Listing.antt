-- The tables and the objects of a set over a directory.
use Rattle.std.proofs.Common.{◌≡◌, ℕ, ◌<◌, ◌≤◌, List, ◌++◌, Option, Some, None, map, length, refl, ap, sym, ◌∙◌, subst, arith}
use Rattle.std.proofs.Common.{slice_index_or}
use Rattle.std.specs.Prelude.{All, slice_index}
use Rattle.std.proofs.lemmas.List.{get_or-map, length-map}
use Rattle.graph_model.specs.declared.types.Shape.{Shape}
use Rattle.graph_model.specs.Heaps.{no_shape}
use Rattle.image_meaning.specs.Directories.{Directory}
use Rattle.twin_forms.specs.Sights.{no_kinds}
use Rattle.twin_heap.specs.Here.{kinds_of}
use Rattle.two_spaces.specs.Whole.{AreClasses}
use Rattle.plain_model.specs.Classes.{ClassFacts, no_class}
use Rattle.plain_model.specs.Facts.{classes_of, class_at, shapes_of}
use Rattle.plain_model.specs.First.{class_named}
use Rattle.text_table.specs.Texts.{place_of}
use Rattle.class_set.specs.Facts.{facts_of}
use Rattle.class_set.specs.Linked.{Linked, names_of}
use Rattle.class_set.specs.Sets.{IsLinked}
use Rattle.set_directory.proofs.Numbered.{classes_counted, name_here, named_here}
use Rattle.first_spaces.specs.declared.parts.SpacesTables.{SpacesTables}
use Rattle.first_spaces.specs.Parts.{AreTables}
use Rattle.set_spaces.specs.declared.heap.HeapShapes.{HeapShapes}
use Rattle.set_spaces.specs.Numbering.{ArePlaces, AreNumbers, AreShapes}
use Rattle.set_spaces.specs.Objects.{ListsNamed}
use Rattle.set_spaces.specs.Over.{IsOfClass}
use Rattle.set_spaces.proofs.Classes.{class_found}

abbrev shape_of : ClassFacts → Shape
shape_of c = c.shape

abbrev shape_name : Shape → List ℕ
shape_name s = s.name

abbrev pub named_in : Linked → Shape → ℕ
named_in set s = class_named (classes_of (facts_of set)) s.name

module _ (set : Linked) (linked : IsLinked set) where
  -- the class of its own name is itself
  own_class : (n : ℕ) → n < length (names_of set)
      → class_named (classes_of (facts_of set)) (class_at (facts_of set) n).shape.name ≡ n
  own_class n below =
      let name = (class_at (facts_of set) n).shape.name in
      sym (class_found set name (Some n) (length (names_of set))
      (sym (ap (place_of (names_of set)) (name_here set n) ∙ named_here set n linked below)) refl)

module _ (set : Linked) (directory : Directory) (first : HeapShapes)
    (few : length directory.shapes ≤ 32768)
    (shapes_are : first.shapes.items ≡ directory.shapes)
    (classes_are : first.classes.items ≡ map (named_in set) directory.shapes) where
  class_here : (k : ℕ) → k < length directory.shapes
      → slice_index first.classes.items k ≡ named_in set (slice_index_or directory.shapes k no_shape)
  class_here k lt =
      ap (λ cs. slice_index cs k) classes_are ∙ get_or-map (named_in set) directory.shapes k no_shape 0 lt

  long : length first.classes.items ≡ length directory.shapes
  long = ap length classes_are ∙ length-map directory.shapes (named_in set)

  counted : length first.shapes.items ≡ length directory.shapes
  counted = ap length shapes_are

  pub first_are : All (IsOfClass (facts_of set)) directory.shapes → AreShapes (shapes_of (facts_of set)) first
  first_are agree = record {
    long = long ∙ sym counted;
    few = omega (arith, few, counted);
    same = λ k lt below.
        let within : k < length directory.shapes = omega (arith, lt, counted) in
        let class = named_in set (slice_index_or directory.shapes k no_shape) in
        let its : slice_index first.classes.items k ≡ class = class_here k within in
        let there : class < length (classes_of (facts_of set)) =
        omega (arith, below, its, length-map (classes_of (facts_of set)) shape_of) in
        ap (λ (ss : List Shape). slice_index_or ss k no_shape) shapes_are
        ∙ agree k no_shape within there
        ∙ sym (get_or-map shape_of (classes_of (facts_of set)) class no_class no_shape there)
        ∙ ap (λ c. slice_index_or (shapes_of (facts_of set)) c no_shape) (sym its);
  }

  module _ (places : List (Option ℕ)) (heap : HeapShapes) (numbers : List ℕ)
      (are : AreNumbers (shapes_of (facts_of set)) places first heap numbers)
      (all : length numbers ≡ length (shapes_of (facts_of set))) (tables : SpacesTables)
      (same_shapes : tables.shapes ≡ shapes_of (facts_of set))
      (same_heap : tables.heap_shapes ≡ heap.shapes.items)
      (same_classes : tables.classes.items ≡ heap.classes.items)
      (same_numbers : tables.numbers.items ≡ numbers) where
    classed : AreClasses (shapes_of (facts_of set))
        (map kinds_of heap.shapes.items) heap.classes.items numbers
    classed = record {
      long = are.are_shapes.long ∙ sym (length-map heap.shapes.items kinds_of);
      kinds_are = λ k lt below.
          let within : k < length heap.shapes.items = omega (arith, lt, are.are_shapes.long) in
          get_or-map kinds_of heap.shapes.items k no_shape no_kinds within
          ∙ ap kinds_of (are.are_shapes.same k within below);
      all = all;
      within = λ c lt.
          let there = are.within c lt in omega (arith, there, length-map heap.shapes.items kinds_of);
      back = are.back;
    }

    pub tables_are : AreTables (facts_of set) directory tables
    tables_are = record {
      further = are.continues.further;
      shapes_are = same_shapes;
      heap_shapes_are = same_heap ∙ are.continues.shapes
          ∙ ap (λ (ss : List Shape). ss ++ are.continues.further) shapes_are;
      few = let more = ap length same_heap in omega (arith, more, are.are_shapes.few);
      classed =
          subst (λ (ss : List Shape). AreClasses ss (map kinds_of tables.heap_shapes) tables.classes.items
          tables.numbers.items) (sym same_shapes)
          (subst (λ (ss : List Shape). AreClasses (shapes_of (facts_of set)) (map kinds_of ss)
          tables.classes.items
          tables.numbers.items) (sym same_heap)
          (subst (λ cs. AreClasses (shapes_of (facts_of set)) (map kinds_of heap.shapes.items) cs
          tables.numbers.items) (sym same_classes)
          (subst (λ ns. AreClasses (shapes_of (facts_of set)) (map kinds_of heap.shapes.items)
          heap.classes.items ns)
          (sym same_numbers) classed)));
      named = λ k lt. ap (λ cs. slice_index cs k) same_classes
          ∙ are.continues.classes k (omega (arith, lt, long)) ∙ class_here k lt;
    }

    pub tables_list : IsLinked set → ArePlaces first.classes.items (length first.classes.items)
        (length (names_of set)) places
        → ListsNamed (facts_of set) directory tables
    tables_list linked there n below (k, lt, is) =
        let name = (class_at (facts_of set) n).shape.name in
        let named = length-map directory.shapes shape_name in
        let within : k < length directory.shapes = omega (arith, lt, named) in
        let known : n < length (names_of set) = omega (arith, below, classes_counted set) in
        let its : slice_index first.classes.items k ≡ n =
        class_here k within
        ∙ ap (class_named (classes_of (facts_of set)))
        (sym (get_or-map shape_name directory.shapes k no_shape name within) ∙ is)
        ∙ own_class set linked n known in
        let (j, at) = there.all k (omega (arith, within, long)) (omega (arith, its, known)) in
        let here : slice_index_or places n None ≡ Some j =
        ap (λ c. slice_index_or places c None) (sym its) ∙ at in
        let (early, its_class) = there.is n j here in
        let number : slice_index tables.numbers.items n ≡ j =
        ap (λ ns. slice_index ns n) same_numbers
        ∙ are.placed n j (omega (arith, all, below, length-map (classes_of (facts_of set)) shape_of)) here in
        omega (arith, number, early, long)
