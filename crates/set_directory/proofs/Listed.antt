-- The entries of a class set: its shapes and its durable roots, in order.
use Rattle.std.proofs.Common.{◌≡◌, ◌⊎◌, inl, inr, ⊎_elim, ◌<◌, ℕ, Bool, true, false, List, [], ◌∷◌, ◌++◌, Option, Some, None}
use Rattle.std.proofs.Common.{length, map, filter, take, get_or, slice_index_or, refl, sym, ◌∙◌, ap, subst, append_assoc, arith}
use Rattle.std.proofs.Common.{if◌then◌else◌}
use Rattle.std.specs.Prelude.{All, Contains}
use Rattle.std.specs.List.{flat_map}
use Rattle.std.specs.Option.{option_to_list}
use Rattle.std.specs.Str.{bytes_eq}
use Rattle.std.proofs.lemmas.Grind.{flat_map-append}
use Rattle.std.proofs.lemmas.List.{append-nil, map-append, get_or_default}
use Rattle.std.proofs.lemmas.List.Elements.{All-contains, All-contains_itself, All-head, All-tail, All-weaker, filter-append}
use Rattle.std.proofs.lemmas.List.Elements.{Contains-append_left, Contains-append_right, Contains-append_cases, Contains-get_or}
use Rattle.graph_walks.proofs.Lists.{Contains-cons_cases, Contains-head, Contains-nil, Contains-tail}
use Rattle.graph_model.specs.declared.types.Root.{Root}
use Rattle.graph_model.specs.declared.types.Shape.{Shape}
use Rattle.image_meaning.specs.Entries.{DirectoryEntry, ShapeEntry, RootEntry, AreBytes, IsShape}
use Rattle.plain_model.specs.Classes.{ArrayType, ClassFacts}
use Rattle.plain_model.specs.BuiltIn.{arguments_array, built_in_classes, chars_array}
use Rattle.plain_model.specs.Facts.{SetFacts, StaticFacts, class_at}
use Rattle.text_table.specs.Sorted.{insert_text, sorted_texts}
use Rattle.class_set.specs.Linked.{Linked, class_named, names_of}
use Rattle.class_set.specs.Facts.{facts_of, named_classes as linked_classes, roots_of}
use Rattle.class_set.specs.Sets.{IsLinked, made_of, shape_in}
use Rattle.class_set.specs.Tables.{array_shape}
use Rattle.class_set.proofs.Supertypes.{program_counted}
use Rattle.directories.specs.ClassSets.{named_classes, AreEntriesOf, AreInOrder, AreMade, CanBeWritten, IsClassShape}
use Rattle.directories.specs.ClassSets.{IsMadeShape, class_in}
use Rattle.set_directory.specs.Written.{is_written, is_written_at, has_shape, written_names, shape_called, shapes_called}
use Rattle.set_directory.specs.Written.{written_shapes, written_roots}
use Rattle.set_directory.proofs.Numbered.{called_here, name_at, name_here, named_here}
use Rattle.set_directory.proofs.Roots.{root_from, root_there}
use Rattle.set_directory.proofs.Sorted.{inserted_last, sorted_from, sorted_has, sorted_in_order}
use Rattle.set_directory.proofs.Written.{MakesWhatIsMade, IsItsShape, is_its_shape, is_written_as}

-- ---- lists

head_kept : {A : Type 0} (b : Bool) (x : A) (xs : List A) → b ≡ true → Contains (if b then x ∷ xs else xs) x
head_kept true x xs is = Contains-head x xs
head_kept false x xs is = absurd (cc)

rest_kept : {A : Type 0} (b : Bool) (x : A) (xs : List A) (y : A) → Contains xs y → Contains (if b then x ∷ xs else xs) y
rest_kept true x xs y there = Contains-tail x xs y there
rest_kept false x xs y there = there

kept_from : {A : Type 0} (b : Bool) (x : A) (xs : List A) (y : A) → Contains (if b then x ∷ xs else xs) y
    → ((b ≡ true) × (x ≡ y)) ⊎ Contains xs y
kept_from true x xs y there = ⊎_elim (λ (here : x ≡ y). inl (refl, here)) (λ (later : Contains xs y). inr later) (Contains-cons_cases x xs y there)
kept_from false x xs y there = inr there

filtered_has : {A : Type 0} (p : A → Bool) (xs : List A) (y : A) → Contains xs y → p y ≡ true → Contains (filter p xs) y
filtered_has p [] y there is = absurd (Contains-nil y there)
filtered_has {A} p (x ∷ xs) y there is = ⊎_elim
    (λ (here : x ≡ y). subst (λ (z : A). Contains (if p x then x ∷ filter p xs else filter p xs) z) here
    (head_kept (p x) x (filter p xs) (ap p here ∙ is)))
    (λ (later : Contains xs y). rest_kept (p x) x (filter p xs) y (filtered_has p xs y later is))
    (Contains-cons_cases x xs y there)

filtered_from : {A : Type 0} (p : A → Bool) (xs : List A) (y : A) → Contains (filter p xs) y → Contains xs y × (p y ≡ true)
filtered_from p [] y there = absurd (Contains-nil y there)
filtered_from {A} p (x ∷ xs) y there = ⊎_elim
    (λ (here : (p x ≡ true) × (x ≡ y)).
    (subst (λ (z : A). Contains (x ∷ xs) z) here.1 (Contains-head x xs), subst (λ (z : A). p z ≡ true) here.1 here.0))
    (λ (later : Contains (filter p xs) y). let rest = filtered_from p xs y later in (Contains-tail x xs y rest.0, rest.1))
    (kept_from (p x) x (filter p xs) y there)

-- ---- the names of shapes

module _ (set : Linked) (linked : IsLinked set) where
  name_from : (name : List ℕ) → Contains (written_names set) name
      → (n : ℕ) × (n < length (names_of set)) × (is_written set n ≡ true) × (name ≡ name_at set n)
  name_from name there =
      let one = filtered_from (has_shape set) (names_of set) name (sorted_from (filter (has_shape set) (names_of set)) name there) in
      let k = one.0.0 in
      let below : k < length (names_of set) = one.0.1 in
      let is : name ≡ name_at set k = sym one.0.2 ∙ get_or_default (names_of set) k name [] below in (
        k,
        below,
        ap (is_written_at set) (sym (ap (class_named set) is ∙ named_here set k linked below)) ∙ one.1,
        is,
      )

  name_there : (n : ℕ) → n < length (names_of set) → is_written set n ≡ true → Contains (written_names set) (name_at set n)
  name_there n below written =
      sorted_has (filter (has_shape set) (names_of set)) (name_at set n)
      (filtered_has (has_shape set) (names_of set) (name_at set n) (Contains-get_or (names_of set) n [] below)
      (ap (is_written_at set) (named_here set n linked below) ∙ written))

-- ---- the shapes by their names

some_from : (o : Option Shape) (shape : Shape) → Contains (option_to_list o) shape → o ≡ Some shape
some_from None shape there = absurd (Contains-nil shape there)
some_from (Some s) shape there = ⊎_elim
    (λ (here : s ≡ shape). ap (λ (x : Shape). Some x) here)
    (λ (none : Contains [] shape). absurd (Contains-nil shape none))
    (Contains-cons_cases s [] shape there)

some_there : (o : Option Shape) (shape : Shape) → o ≡ Some shape → Contains (option_to_list o) shape
some_there o shape is = subst (λ (x : Option Shape). Contains (option_to_list x) shape) (sym is) (Contains-head shape [])

called_from : (set : Linked) (names : List (List ℕ)) (shape : Shape) → Contains (shapes_called set names) shape
    → (name : List ℕ) × Contains names name × (shape_called set name ≡ Some shape)
called_from set [] shape there = absurd (Contains-nil shape there)
called_from set (n ∷ ns) shape there = ⊎_elim
    (λ (here : Contains (option_to_list (shape_called set n)) shape). (n, Contains-head n ns, some_from (shape_called set n) shape here))
    (λ (later : Contains (shapes_called set ns) shape).
    let rest = called_from set ns shape later in (rest.0, Contains-tail n ns rest.0 rest.1, rest.2))
    (Contains-append_cases (option_to_list (shape_called set n)) (shapes_called set ns) shape there)

called_there : (set : Linked) (names : List (List ℕ)) (name : List ℕ) (shape : Shape) → Contains names name
    → shape_called set name ≡ Some shape → Contains (shapes_called set names) shape
called_there set [] name shape there is = absurd (Contains-nil name there)
called_there set (n ∷ ns) name shape there is =
    let one = option_to_list (shape_called set n) in
    let rest = shapes_called set ns in ⊎_elim
    (λ (here : n ≡ name). Contains-append_left one rest shape
    (some_there (shape_called set n) shape (ap (shape_called set) here ∙ is)))
    (λ (later : Contains ns name). Contains-append_right one rest shape (called_there set ns name shape later is))
    (Contains-cons_cases n ns name there)

abbrev shape_name : Shape → List ℕ
shape_name s = s.name

-- a shape of this name is found by it
abbrev IsCalled : Linked → List ℕ → Type 0
IsCalled set name = (s : Shape) × (shape_called set name ≡ Some s) × (s.name ≡ name)

names_called : (set : Linked) (names : List (List ℕ)) → All (IsCalled set) names → map shape_name (shapes_called set names) ≡ names
names_called set [] all = refl
names_called set (n ∷ ns) all =
    let one = All-head (IsCalled set) n ns all in
    map-append shape_name (option_to_list (shape_called set n)) (shapes_called set ns)
    ∙ ap (λ (o : Option Shape). map shape_name (option_to_list o) ++ map shape_name (shapes_called set ns)) one.1
    ∙ ap (λ (x : List ℕ). x ∷ map shape_name (shapes_called set ns)) one.2
    ∙ ap (λ (xs : List (List ℕ)). n ∷ xs) (names_called set ns (All-tail (IsCalled set) n ns all))

-- ---- the entries

module _ (set : Linked) (linked : IsLinked set) (makes_made : MakesWhatIsMade set) where
  called : (name : List ℕ) → Contains (written_names set) name → IsCalled set name
  called name there =
      let one = name_from set linked name there in (
        (class_at (facts_of set) one.0).shape,
        ap (shape_called set) one.3 ∙ called_here set one.0 linked one.1,
        name_here set one.0 ∙ sym one.3,
      )

  shape_from : (shape : Shape) → Contains (written_shapes set) shape → IsItsShape set shape
  shape_from shape there =
      let one = called_from set (written_names set) shape there in
      let at = name_from set linked one.0 one.1 in
      let is : Some (class_at (facts_of set) at.0).shape ≡ Some shape =
      sym (called_here set at.0 linked at.1) ∙ ap (shape_called set) (sym at.3) ∙ one.2 in
      let same : (class_at (facts_of set) at.0).shape ≡ shape = cc in
      subst (IsItsShape set) same (is_its_shape set makes_made at.0 at.1 at.2)

  shape_there : (shape : Shape) → IsItsShape set shape → Contains (written_shapes set) shape
  shape_there shape its =
      let one = is_written_as set makes_made shape its in
      called_there set (written_names set) (name_at set one.0) shape (name_there set linked one.0 one.1 one.2)
      (called_here set one.0 linked one.1 ∙ ap (λ (s : Shape). Some s) (sym one.3))

  pub entries_are : AreMade (facts_of set) (made_of set)
      → AreEntriesOf (facts_of set) (made_of set) (map ShapeEntry (written_shapes set) ++ map RootEntry (written_roots set))
  entries_are made = record {
    shapes = written_shapes set;
    roots = written_roots set;
    are = refl;
    made_are = made;
    all_shapes = λ shape. (shape_from shape, shape_there shape);
    all_roots = λ name. (
      λ there. root_from (facts_of set) name (sorted_from (map (λ (root : Root). root.name) (roots_of (facts_of set))) name there),
      λ is. sorted_has (map (λ (root : Root). root.name) (roots_of (facts_of set))) name (root_there (facts_of set) name is),
    );
    shapes_in_order = subst (λ (names : List (List ℕ)). AreInOrder names)
        (sym (names_called set (written_names set) (All-weaker (Contains (written_names set)) (IsCalled set) called (written_names set)
        (All-contains_itself (written_names set)))))
        (sorted_in_order (filter (has_shape set) (names_of set)));
    roots_in_order = sorted_in_order (map (λ (root : Root). root.name) (roots_of (facts_of set)));
  }

-- ---- what a class set's laws say

pub all_made : (set : Linked) → Contains (made_of set) chars_array.descriptor → Contains (made_of set) (arguments_array (length set.files)).descriptor
    → ((text : List ℕ) → Contains (made_of set) text → (a : ArrayType) × Contains (facts_of set).arrays a × (a.descriptor ≡ text))
    → AreMade (facts_of set) (made_of set)
all_made set chars arguments known = record { chars = chars; arguments = arguments; known = known }

pub can_write : (set : Linked) → All (λ (c : ClassFacts). IsShape c.shape) (linked_classes set.files)
    → All (λ (a : ArrayType). Contains (made_of set) a.descriptor → IsShape (array_shape a)) (facts_of set).arrays
    → All (λ (s : StaticFacts). AreBytes s.name) (facts_of set).statics → CanBeWritten (facts_of set) (made_of set)
can_write set classes arrays names =
    let same : named_classes (facts_of set) ≡ linked_classes set.files =
    ap (λ n. (facts_of set).program ++ built_in_classes n) (program_counted set.files set.files) in record {
      shapes = λ shape either. ⊎_elim
          (λ (class : IsClassShape (facts_of set) shape). subst IsShape (sym class.3)
          (All-contains (λ (c : ClassFacts). IsShape c.shape) (linked_classes set.files) class.0 classes
          (subst (λ (cs : List ClassFacts). Contains cs class.0) same class.1)))
          (λ (array : IsMadeShape (facts_of set) (made_of set) shape). subst IsShape (sym array.4)
          (All-contains (λ (a : ArrayType). Contains (made_of set) a.descriptor → IsShape (array_shape a)) (facts_of set).arrays array.0
          arrays array.1 array.2))
          either;
      roots = λ name root. subst AreBytes (sym root.3)
          (All-contains (λ (s : StaticFacts). AreBytes s.name) (facts_of set).statics root.0 names root.1);
    }

-- ---- one name after another

pub kept_more : (p : List ℕ → Bool) (xs : List (List ℕ)) (x : List ℕ) → p x ≡ true
    → sorted_texts (filter p (xs ++ x ∷ [])) ≡ insert_text (sorted_texts (filter p xs)) x
kept_more p xs x is =
    ap sorted_texts (filter-append p xs (x ∷ []) ∙ ap (λ b. filter p xs ++ (if b then x ∷ [] else [])) is)
    ∙ inserted_last [] (filter p xs) x

pub left_out : (p : List ℕ → Bool) (xs : List (List ℕ)) (x : List ℕ) → p x ≡ false
    → sorted_texts (filter p (xs ++ x ∷ [])) ≡ sorted_texts (filter p xs)
left_out p xs x is =
    ap sorted_texts (filter-append p xs (x ∷ []) ∙ ap (λ b. filter p xs ++ (if b then x ∷ [] else [])) is ∙ append-nil (filter p xs))

pub called_more : (set : Linked) (xs : List (List ℕ)) (x : List ℕ)
    → map ShapeEntry (shapes_called set (xs ++ x ∷ []))
    ≡ map ShapeEntry (shapes_called set xs) ++ map ShapeEntry (option_to_list (shape_called set x))
called_more set xs x =
    ap (λ (l : List Shape). map ShapeEntry l)
    (flat_map-append (λ name. option_to_list (shape_called set name)) xs (x ∷ [])
    ∙ ap (λ (l : List Shape). shapes_called set xs ++ l) (append-nil (option_to_list (shape_called set x))))
    ∙ map-append ShapeEntry (shapes_called set xs) (option_to_list (shape_called set x))

-- a class by its name
pub same_class : (classes : List ClassFacts) (name : List ℕ) → shape_in classes name ≡ class_in classes name
same_class [] name = refl
same_class (c ∷ classes) name = ap (λ o. if bytes_eq c.shape.name name then Some c.shape else o) (same_class classes name)

pub its_entries : (set : Linked) (items : List DirectoryEntry) → IsLinked set → MakesWhatIsMade set → AreMade (facts_of set) (made_of set)
    → items ≡ map ShapeEntry (written_shapes set) ++ map RootEntry (written_roots set)
    → AreEntriesOf (facts_of set) (made_of set) items
its_entries set items linked makes_made made are =
    subst (AreEntriesOf (facts_of set) (made_of set)) (sym are) (entries_are set linked makes_made made)
