-- The parts of a set over a directory.
use Rattle.std.proofs.Common.{◌≡◌, inl, inr, ⊎_elim, ℕ, ◌<◌, ◌≤◌, ◌^◌, Bool, true, false, not, ◌&&◌, List, Option, Some, None}
use Rattle.std.proofs.Common.{map, length, refl, ap, sym, ◌∙◌, subst, arith, slice_index_or, if◌then◌else◌}
use Rattle.std.specs.Prelude.{All, Contains, slice_get, slice_index}
use Rattle.std.proofs.lemmas.Bool.{and_parts, cases_lt, false≢true, le-ltb}
use Rattle.std.proofs.lemmas.List.{length-append, length-map}
use Rattle.std.proofs.lemmas.List.Elements.{All-same, All-weaker, Contains-append_right, Contains-get_or}
use Rattle.std.proofs.lemmas.Option.{slice_get_within}
use Rattle.graph_model.specs.declared.types.Shape.{Shape}
use Rattle.image_meaning.specs.Directories.{Directory}
use Rattle.plain_model.specs.BuiltIn.{arguments_array, built_in_classes}
use Rattle.plain_model.specs.Classes.{ClassFacts, no_class}
use Rattle.plain_model.specs.Consistent.{IsConsistent}
use Rattle.plain_model.specs.Facts.{SetFacts, arguments_class, built_in_number, classes_of, class_at, innermost_of}
use Rattle.plain_model.proofs.Consistent.{class_of_place, place_there}
use Rattle.plain_model.proofs.Given.{given_arrays_are_there}
use Rattle.text_table.specs.Sorted.{has_text}
use Rattle.class_set.specs.ArrayTypes.{makes}
use Rattle.class_set.specs.Facts.{facts_of}
use Rattle.class_set.specs.Linked.{Linked, class_count, class_names, names_of}
use Rattle.class_set.specs.Sets.{is_there, made_of}
use Rattle.class_set.proofs.Above.{class_names_counted}
use Rattle.directories.specs.ClassSets.{named_classes}
use Rattle.set_directory.specs.Written.{is_written}
use Rattle.set_directory.proofs.Numbered.{classes_counted}
use Rattle.set_directory.proofs.Written.{IsItsShape, MakesWhatIsMade, is_written_as}
use Rattle.first_spaces.specs.declared.parts.FirstObjects.{FirstObjects}
use Rattle.first_spaces.specs.declared.parts.SpacesTables.{SpacesTables}
use Rattle.first_spaces.specs.Parts.{AreObjects, AreTables}
use Rattle.set_spaces.specs.Objects.{AreObjectsOf, ListsNamed}
use Rattle.set_spaces.specs.Over.{HasShapesOf, ListsClasses}

-- ---- classes that have a shape in a directory

made_below : (set : Linked) (n : ℕ) → makes set n ≡ true → n < length (names_of set)
made_below set n is = by (slice_get (names_of set) n) refl is
  where
    by : (o : Option (List ℕ)) → slice_get (names_of set) n ≡ o
        → (elim o as (λ _. Bool) [ None ↦ false | Some t ↦ has_text (made_of set) t ]) ≡ true
        → n < length (names_of set)
    by None at made = absurd (false≢true made)
    by (Some name) at made = slice_get_within (names_of set) n name at

written_below : (set : Linked) (n : ℕ) → is_written set n ≡ true → n < length (names_of set)
written_below set n written = ⊎_elim
    (λ (low : n < class_count set).
    omega (arith, low, class_names_counted set.files, length-append (class_names set.files) set.arrays))
    (λ (past : class_count set ≤ n).
    let array : (makes set n && is_there (innermost_of (facts_of set) n)) ≡ true =
    sym (ap (λ b. if b then not (class_at (facts_of set) n).is_interface
    else makes set n && is_there (innermost_of (facts_of set) n)) (le-ltb n (class_count set) past))
    ∙ written in
    made_below set n
    (and_parts (makes set n) (is_there (innermost_of (facts_of set) n)) array).0)
    (cases_lt n (class_count set))

module _ (set : Linked) (directory : Directory) (tables : SpacesTables) (has : HasShapesOf set directory)
    (are : AreTables (facts_of set) directory tables)
    (lists : ListsNamed (facts_of set) directory tables) where
  abbrev facts : SetFacts
  facts = facts_of set

  pub lists_classes : ListsClasses set directory tables
  lists_classes n written =
      let there = written_below set n written in
      let below : n < length (classes_of facts) = omega (arith, there, classes_counted set) in
      let shapes = ap (λ (ss : List Shape). length ss) are.shapes_are
      ∙ length-map (classes_of facts) (λ (c : ClassFacts). c.shape) in
      (omega (arith, below, are.classed.all, shapes), lists n below (has n written))

  module _ (makes_made : MakesWhatIsMade set) where
    listed_shape : (n : ℕ) → n < length (classes_of facts) → IsItsShape set (class_at facts n).shape
        → slice_index tables.numbers.items n < length directory.shapes
    listed_shape n below its =
        let (m, there, written, same) = is_written_as set makes_made (class_at facts n).shape its in
        lists n below
        (subst (λ name. Contains (map (λ (s : Shape). s.name) directory.shapes) name)
        (ap (λ (s : Shape). s.name) (sym same)) (has m written))

    -- a built-in class that isn't an interface
    built_in : (k : ℕ) → k < 28
        → (slice_index_or (built_in_classes (length facts.program)) k no_class).is_interface ≡ false
        → slice_index tables.numbers.items (built_in_number facts k) < length directory.shapes
    built_in k below plain =
        let n = built_in_number facts k in
        let built_ins = built_in_classes (length facts.program) in
        let here : class_at facts n ≡ slice_index_or built_ins k no_class = class_of_place facts k below in
        listed_shape n (place_there facts k below) (inl (
          class_at facts n,
          subst (λ (c : ClassFacts). Contains (named_classes facts) c) (sym here)
              (Contains-append_right facts.program built_ins (slice_index_or built_ins k no_class)
              (Contains-get_or built_ins k no_class below)),
          ap (λ (c : ClassFacts). c.is_interface) here ∙ plain,
          refl,
        ))

    module _ (consistent : IsConsistent facts)
        (made : Contains (made_of set) (arguments_array (length set.files)).descriptor) where
      arguments_listed : slice_index tables.numbers.items (arguments_class facts) < length directory.shapes
      arguments_listed =
          let given = (given_arrays_are_there facts consistent).arguments in
          listed_shape (arguments_class facts) given.there (inr (
            arguments_array (length facts.program),
            consistent.complete.arguments,
            made,
            tt,
            ap (λ (c : ClassFacts). c.shape) given.class,
          ))

      pub objects_are : (objects : FirstObjects) → AreObjectsOf facts objects
          → All (λ (text : List ℕ). length text < 2 ^ 16) facts.literals
          → AreObjects facts directory tables.numbers.items objects
      objects_are objects its short =
          let Listed : ℕ → Type 0 = λ n. slice_index tables.numbers.items n < length directory.shapes in
          record {
            stream_is = its.stream_is;
            arguments_is = its.arguments_is;
            string_is = its.string_is;
            literals_are = its.literals_are;
            short = All-same (λ (text : List ℕ). length text < 2 ^ 31) objects.literals facts.literals
                its.literals_are
                (All-weaker (λ (text : List ℕ). length text < 2 ^ 16)
                (λ (text : List ℕ). length text < 2 ^ 31)
                (λ text l. omega (arith, l)) facts.literals short);
            stream_there = subst Listed (sym its.stream_is) (built_in 1 (omega arith) refl);
            arguments_there = subst Listed (sym its.arguments_is) arguments_listed;
            string_there = subst Listed (sym its.string_is) (built_in 21 (omega arith) refl);
          }
