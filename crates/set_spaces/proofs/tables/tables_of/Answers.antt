use Rattle.std.proofs.Common.{◌≡◌, ◌∙◌, ℕ, List, Option, ap, sym, subst, arith, length, map, refl}
use Rattle.graph_model.specs.declared.types.Shape.{Shape}
use Rattle.plain_model.specs.Facts.{shapes_of}
use Rattle.class_set.specs.Facts.{facts_of}
use Rattle.class_set.specs.Linked.{names_of}
use Rattle.directories.specs.Planning.{directory_of_kept}
use Rattle.set_directory.proofs.Numbered.{shapes_counted}
use Rattle.set_spaces.specs.declared.heap.HeapShapes.{HeapShapes}
use Rattle.set_spaces.specs.Numbering.{AreNumbers, ArePlaces, AreShapes}
use Rattle.set_spaces.proofs.Listing.{first_are, named_in, tables_are, tables_list}
use Rattle.set_spaces.proofs.tables.tables_of.Goals as goal

shapes_long : (shapes all : List Shape) (n : ℕ) → shapes ≡ all → length all ≡ n → length shapes ≡ n
shapes_long shapes all n e long = ap (λ (ss : List Shape). length ss) e ∙ long

places_so : (classes given : List ℕ) (count n : ℕ) (places other : List (Option ℕ)) → given ≡ classes
    → count ≡ n
    → other ≡ places → ArePlaces given (length given) count places
    → ArePlaces classes (length classes) n other
places_so classes given count n places other same_classes same_count same_places are =
    subst (λ ps. ArePlaces classes (length classes) n ps) (sym same_places)
    (subst (λ k. ArePlaces classes (length classes) k places) same_count
    (subst (λ cs. ArePlaces cs (length cs) count places) same_classes are))

pub numbers-requires-clause-few : goal.numbers-requires-clause-few
numbers-requires-clause-few c =
    let long = shapes_long c.shapes.result.now (shapes_of (facts_of c.args.set.now))
    (length (names_of c.args.set.now))
    c.shapes.ensures.shapes (shapes_counted c.args.set.now) in
    let count = c.in_ok-count.ensures.count in
    let few = c.in_ok-count.ensures.few in
    omega (arith, long, count, few)

pub numbers-requires-clause-are : goal.numbers-requires-clause-are
numbers-requires-clause-are c =
    let set = c.args.set.now in
    let first : HeapShapes = record { shapes = c.in_ok-copied.field-0; classes = c.in_ok-classes.classes } in
    subst (λ (ss : List Shape). AreShapes ss first) (sym c.shapes.ensures.shapes)
    (first_are set (directory_of_kept c.args.directory.now) first c.shapes-had.ensures.few
    (c.in_ok-copied.ensures ∙ c.shapes-had.ensures.shapes)
    (c.in_ok-classes.ensures ∙ ap (λ (ss : List Shape). map (named_in set) ss) c.shapes-had.ensures.shapes)
    c.requires.agree)

pub numbers-requires-clause-places : goal.numbers-requires-clause-places
numbers-requires-clause-places c =
    let long = shapes_long c.shapes.result.now (shapes_of (facts_of c.args.set.now))
    (length (names_of c.args.set.now))
    c.shapes.ensures.shapes (shapes_counted c.args.set.now) in
    places_so c.in_ok-classes.classes.items c.as_slice.result.now c.in_ok-count.count
    (length c.shapes.result.now)
    c.in_ok-places.places.items c.as_slice-2.result.now c.as_slice.ensures.value
    (c.in_ok-count.ensures.count ∙ sym long) c.as_slice-2.ensures.value c.in_ok-places.ensures

pub returns-clause-tables : goal.returns-clause-tables
returns-clause-tables c =
    let set = c.args.set.now in
    let first : HeapShapes = record { shapes = c.in_ok-copied.field-0; classes = c.in_ok-classes.classes } in
    let places = c.as_slice-2.result.now in
    let numbers = c.in_ok-numbers.numbers.items in
    let shapes_are = c.shapes.ensures.shapes in
    tables_are set (directory_of_kept c.args.directory.now) first c.shapes-had.ensures.few
    (c.in_ok-copied.ensures ∙ c.shapes-had.ensures.shapes)
    (c.in_ok-classes.ensures ∙ ap (λ (ss : List Shape). map (named_in set) ss) c.shapes-had.ensures.shapes)
    places c.numbers.new.self numbers
    (subst (λ (ss : List Shape). AreNumbers ss places first c.numbers.new.self numbers) shapes_are
    c.in_ok-numbers.ensures.numbers)
    (c.in_ok-numbers.ensures.long ∙ ap (λ (ss : List Shape). length ss) shapes_are)
    (record {
      shapes = c.from_vec.result;
      heap_shapes = c.from_vec-2.result;
      classes = c.numbers.new.self.classes;
      numbers = c.in_ok-numbers.numbers;
    })
    (c.from_vec.ensures ∙ c.in_ok-copied-2.ensures ∙ c.shapes-2.ensures.shapes) c.from_vec-2.ensures refl refl

pub returns-clause-listed : goal.returns-clause-listed
returns-clause-listed c =
    let set = c.args.set.now in
    let first : HeapShapes = record { shapes = c.in_ok-copied.field-0; classes = c.in_ok-classes.classes } in
    let places = c.as_slice-2.result.now in
    let numbers = c.in_ok-numbers.numbers.items in
    let shapes_are = c.shapes.ensures.shapes in
    tables_list set (directory_of_kept c.args.directory.now) first c.shapes-had.ensures.few
    (c.in_ok-copied.ensures ∙ c.shapes-had.ensures.shapes)
    (c.in_ok-classes.ensures ∙ ap (λ (ss : List Shape). map (named_in set) ss) c.shapes-had.ensures.shapes)
    places c.numbers.new.self numbers
    (subst (λ (ss : List Shape). AreNumbers ss places first c.numbers.new.self numbers) shapes_are
    c.in_ok-numbers.ensures.numbers)
    (c.in_ok-numbers.ensures.long ∙ ap (λ (ss : List Shape). length ss) shapes_are)
    (record {
      shapes = c.from_vec.result;
      heap_shapes = c.from_vec-2.result;
      classes = c.numbers.new.self.classes;
      numbers = c.in_ok-numbers.numbers;
    })
    (c.from_vec.ensures ∙ c.in_ok-copied-2.ensures ∙ c.shapes-2.ensures.shapes) c.from_vec-2.ensures refl refl
    c.shapes.ensures.linked
    (places_so c.in_ok-classes.classes.items c.as_slice.result.now c.in_ok-count.count (length (names_of set))
    c.in_ok-places.places.items places c.as_slice.ensures.value c.in_ok-count.ensures.count
    c.as_slice-2.ensures.value c.in_ok-places.ensures)
