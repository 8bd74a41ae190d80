-- A class set and the directory that has all of its entries suit one another.
use Rattle.std.proofs.Common.{◌≡◌, ℕ, zero, suc, ◌<◌, ◌≤◌, ◌^◌, Bool, true, false, ◌&&◌, nat_lt, replicate, List, [], ◌∷◌, ◌++◌}
use Rattle.std.proofs.Common.{Some, None, map, length, slice_index_or, refl, sym, ap, ◌∙◌, subst, arith, ⊎_elim, if◌then◌else◌}
use Rattle.std.specs.Prelude.{All, Contains}
use Rattle.std.specs.Str.{bytes_eq}
use Rattle.std.proofs.lemmas.Bool.{and_parts, cases_lt, false≢true, le-ltb}
use Rattle.std.proofs.lemmas.List.{get_or-map, length-append, length-map, map-append}
use Rattle.std.proofs.lemmas.List.Elements.{All-contains, All-from_get_or, Contains-append_cases, Contains-append_left}
use Rattle.std.proofs.lemmas.List.Elements.{Contains-append_right, Contains-get_or}
use Rattle.std.proofs.lemmas.Option.{slice_get_past}
use Rattle.std.proofs.lemmas.Slice.Eq.{bytes_eq-Decides}
use Rattle.graph_walks.proofs.Lists.{Contains-cons_cases, Contains-head, Contains-nil, Contains-tail}
use Rattle.ap_base.specs.declared.kind.Kind.{Kind}
use Rattle.ap_base.specs.declared.kind.Kind.TheVariants.{Z, B, C, S, I, J, L, Text}
use Rattle.class_file.specs.declared.class.ClassFile.{ClassFile}
use Rattle.graph_model.specs.declared.types.Graph.{Graph}
use Rattle.graph_model.specs.declared.types.Shape.{Shape}
use Rattle.graph_model.specs.Heaps.{no_shape}
use Rattle.line_memory.specs.Memory.{Memory}
use Rattle.image_meaning.specs.Directories.{AreEntries, Directory, with_all}
use Rattle.image_meaning.specs.Entries.{AreBytes, DirectoryEntry, IsShape, RootEntry, ShapeEntry, component_kind, element_of}
use Rattle.image_meaning.specs.Entries.{is_array_name, is_nil, is_descriptor, is_shape, kind_of_letter}
use Rattle.plain_model.specs.BuiltIn.{array_class, built_in_classes}
use Rattle.plain_model.specs.Classes.{ArrayType, ClassFacts, Innermost, Missing, Numbers, Objects, element_kind, no_class}
use Rattle.plain_model.specs.Consistent.{IsArrayType, IsInnermost, IsNumberKind, innermost_descriptor, kind_letter}
use Rattle.plain_model.specs.Facts.{SetFacts, StaticFacts, classes_of, class_at}
use Rattle.plain_model.specs.First.{class_named, name_is}
use Rattle.class_set.specs.ArrayTypes.{array_type, begins_with_bracket, is_array_type, makes}
use Rattle.class_set.specs.Facts.{class_facts, facts_of}
use Rattle.class_set.specs.Linked.{Linked, class_count, class_names, names_of}
use Rattle.class_set.specs.Sets.{IsLinked, made_of}
use Rattle.class_set.proofs.Consistency.{set_consistent}
use Rattle.class_set.proofs.Described.{described_type}
use Rattle.class_set.proofs.Above.{class_names_counted}
use Rattle.class_set.proofs.Differ.{bracketed, names_listed, type_named}
use Rattle.class_set.proofs.GivenArrays.{contains_map}
use Rattle.class_set.proofs.MadeArrays.{makes_by_name}
use Rattle.class_set.proofs.Written.{class_shapes}
use Rattle.directories.specs.ClassSets.{Agrees, AgreesAs, AreEntriesOf, class_in, named_classes}
use Rattle.directories.specs.Planning.{lacking}
use Rattle.set_directory.specs.Written.{is_written}
use Rattle.set_directory.proofs.Numbered.{classes_counted}
use Rattle.set_directory.proofs.Written.{is_its_shape}
use Rattle.text_table.specs.Sorted.{has_text}
use Rattle.set_opening.specs.Fitted.{AllAgree}
use Rattle.set_opening.specs.Opened.{SuitsSet, shape_names}
use Rattle.first_spaces.specs.Opened.{IsOpened}
use Rattle.set_opening.specs.Opened.{IsOfClass}
use Rattle.set_opening.proofs.Agreeing.{CanBeInDirectory, agreeing_is_of_class}
use Rattle.set_opening.proofs.Belonging.{entry_agrees}
use Rattle.set_opening.proofs.Classes.{IsOwn, NamesDiffer, entry_own, name_equal, name_same}
use Rattle.set_opening.proofs.Literals.{literals_few}
use Rattle.set_opening.proofs.Names.{Differ, OfShape, each_there, entries_all, lacking_all, roots_differ, shapes_differ}
use Rattle.set_opening.proofs.Names.{shapes_with}
use Rattle.set_opening.proofs.Openings.{is_opening, names_are}

-- ---- the element kind of an array type, by its descriptor

letters : (k : Kind) → IsNumberKind k → kind_of_letter (kind_letter k) ≡ k
letters Z h = refl
letters B h = refl
letters C h = refl
letters S h = refl
letters I h = refl
letters J h = refl
letters L h = absurd h
letters Text h = absurd h

first_letter : (set : SetFacts) (i : Innermost) → IsInnermost set i
    → component_kind (innermost_descriptor set i) ≡ element_kind 1 i
first_letter set (Numbers k) h = letters k h
first_letter set (Objects n) h = refl
first_letter set (Missing name) h = refl

element_right : (set : SetFacts) (d : ℕ) (i : Innermost) → 0 < d → IsInnermost set i
    → Some (element_kind d i) ≡ element_of (replicate d 91 ++ innermost_descriptor set i)
element_right set zero i p h = absurd (omega (arith, p))
element_right set (suc zero) i p h = ap (λ k. Some k) (sym (first_letter set i h))
element_right set (suc (suc d)) i p h = refl

bracket_array : (t : List ℕ) → begins_with_bracket t ≡ true → is_array_name t ≡ true
bracket_array [] h = absurd (false≢true h)
bracket_array (b ∷ bs) h = h

-- ---- a class by its name

named_by : (classes : List ClassFacts) (name : List ℕ)
    → Contains (map (λ (c : ClassFacts). c.shape.name) classes) name
    → class_named classes name < length classes
named_by [] name there = absurd (Contains-nil name there)
named_by (c ∷ classes) name there = ⊎_elim
    (λ (first : c.shape.name ≡ name).
    subst (λ n. class_named (c ∷ classes) n < length (c ∷ classes)) first (rw (name_same c.shape.name)
    (omega arith)))
    (λ (later : Contains (map (λ (d : ClassFacts). d.shape.name) classes) name).
    let more = named_by classes name later in
    elim (name_is c.shape.name name) as (λ b. (if b then 0 else suc (class_named classes name)) < suc (length
    classes)) [
      | true ↦ omega arith
      | false ↦ omega (arith, more)
    ])
    (Contains-cons_cases c.shape.name (map (λ (d : ClassFacts). d.shape.name) classes) name there)

-- and its name is that one
pub name_of_named : (classes : List ClassFacts) (name : List ℕ) → class_named classes name < length classes
    → (slice_index_or classes (class_named classes name) no_class).shape.name ≡ name
name_of_named [] name below = absurd (omega (arith, below))
name_of_named (c ∷ classes) name below =
    elim (name_is c.shape.name name) as (λ b. name_is c.shape.name name ≡ b
    → (if b then 0 else suc (class_named classes name)) < suc (length classes)
    → (slice_index_or (c ∷ classes) (if b then 0 else suc (class_named classes name)) no_class).shape.name ≡
    name) [
      | true ↦ λ same lt. name_equal c.shape.name name same
      | false ↦ λ other lt. name_of_named classes name (omega (arith, lt))
    ] refl below

class_there : (classes : List ClassFacts) (name : List ℕ) (shape : Shape) → class_in classes name ≡ Some shape
    → Contains (map (λ (c : ClassFacts). c.shape.name) classes) name
class_there [] name shape is = absurd (cc)
class_there (c ∷ classes) name shape is =
    elim (bytes_eq c.shape.name name) as (λ b. bytes_eq c.shape.name name ≡ b
    → (if b then Some c.shape else class_in classes name) ≡ Some shape
    → Contains (map (λ (d : ClassFacts). d.shape.name) (c ∷ classes)) name) [
      | true ↦ λ same one. subst (λ n. Contains (n ∷ map (λ (d : ClassFacts). d.shape.name) classes) name)
          (sym ((bytes_eq-Decides c.shape.name name).0 same))
          (Contains-head name (map (λ (d : ClassFacts). d.shape.name) classes))
      | false ↦ λ other one. Contains-tail c.shape.name (map (λ (d : ClassFacts). d.shape.name) classes) name
          (class_there classes name shape one)
    ] refl is

-- ---- the set's classes have shapes that a directory can have

-- what agrees with a set agrees with one of the same files
pub agrees_on : (old set : Linked) (shape : Shape) → set.files ≡ old.files → Agrees (facts_of old) shape
    → Agrees (facts_of set) shape
agrees_on old set shape same agrees =
    let P : List ClassFile → Type 0 = λ files. (let bare : Linked = record { files = files; arrays = [] } in
    Agrees (facts_of bare) shape) in
    subst P (sym same) agrees

is_described : (shape : Shape) → IsShape shape → is_array_name shape.name ≡ true
    → is_descriptor shape.name ≡ true
unfolding is_shape
is_described shape is array =
    let form : (is_nil shape.fields && is_descriptor shape.name) ≡ true = rw array at (is.form) in
    (and_parts (is_nil shape.fields) (is_descriptor shape.name) form).1

array_form : (name : List ℕ) → is_array_name name ≡ true → is_descriptor name ≡ true → is_shape name [] ≡ true
unfolding is_shape
array_form name array descriptor = rw (array, descriptor) refl

module _ (set : Linked) (linked : IsLinked set) where
  abbrev facts : SetFacts
  facts = facts_of set

  named_shapes : All (λ (c : ClassFacts). IsShape c.shape) (named_classes facts)
  named_shapes =
      subst (λ n. All (λ (c : ClassFacts). IsShape c.shape) (facts.program ++ built_in_classes n))
      (sym (length-map set.files (class_facts set.files))) (class_shapes set linked)

  array_shape_is : (text : List ℕ) → is_array_type text ≡ true → (like : Shape) → IsShape like
      → like.name ≡ text
      → is_array_name like.name ≡ true → IsShape (array_class (length facts.program)
      (array_type set.files text)).shape
  array_shape_is text is like good same array =
      let a : ArrayType = array_type set.files text in
      let told : IsArrayType facts a = described_type set text is in
      let own : like.name ≡ a.descriptor = same ∙ sym (type_named set.files text) in
      record {
        name = subst AreBytes own good.name;
        short = subst (λ (t : List ℕ). length t < 2 ^ 32) own good.short;
        fields = tt;
        element = element_right facts a.dimensions a.innermost told.dimensions told.innermost
            ∙ ap element_of (sym told.descriptor);
        form = subst (λ t. is_shape t [] ≡ true) own (array_form like.name array (is_described like good
            array));
      }

  -- the class with the name of a shape that a directory has
  like_shape : (shape : Shape) → IsShape shape → CanBeInDirectory facts shape.name
  like_shape shape good below =
      let n = class_named (classes_of facts) shape.name in
      let c = class_at facts n in
      let named : c.shape.name ≡ shape.name = name_of_named (classes_of facts) shape.name below in
      ⊎_elim
      (λ (class : Contains (named_classes facts) c). All-contains (λ (x : ClassFacts). IsShape x.shape)
      (named_classes facts) c named_shapes class)
      (λ (type : Contains (map (array_class (length facts.program)) facts.arrays) c). of_type c named type)
      (Contains-append_cases (named_classes facts) (map (array_class (length facts.program)) facts.arrays) c
      (Contains-get_or (classes_of facts) n no_class below))
    where
      of_type : (c : ClassFacts) → c.shape.name ≡ shape.name
          → Contains (map (array_class (length facts.program)) (map (array_type set.files) set.arrays)) c
          → IsShape c.shape
      of_type c named (k, under, is) =
          let count : length (map (array_class (length facts.program))
          (map (array_type set.files) set.arrays)) ≡ length set.arrays =
          length-map (map (array_type set.files) set.arrays) (array_class (length facts.program))
          ∙ length-map set.arrays (array_type set.files) in
          let text = slice_index_or set.arrays k [] in
          let low : k < length set.arrays = omega (arith, under, count) in
          let here : c ≡ array_class (length facts.program) (array_type set.files text) =
          sym is ∙ get_or-map (array_class (length facts.program))
          (map (array_type set.files) set.arrays) k (array_type set.files []) c
          (omega (arith, low, length-map set.arrays (array_type set.files)))
          ∙ ap (array_class (length facts.program))
          (get_or-map (array_type set.files) set.arrays k [] (array_type set.files []) low) in
          let typed : is_array_type text ≡ true = linked.arrays k [] low in
          let own : shape.name ≡ text = sym named ∙ ap (λ (x : ClassFacts). x.shape.name) here
          ∙ type_named set.files text in
          subst (λ (x : ClassFacts). IsShape x.shape) (sym here)
          (array_shape_is text typed shape good own (subst (λ t. is_array_name t ≡ true) (sym own)
          (bracket_array text (bracketed text typed))))

  differ : NamesDiffer (classes_of facts)
  differ = (set_consistent set linked).names_differ

  -- each array type among the shapes has a number
  abbrev AreNumbered : List Shape → Type 0
  AreNumbered shapes = (shape : Shape) → Contains shapes shape → is_array_name shape.name ≡ true
      → Contains (names_of set) shape.name

  known_by : (shape : Shape) (array : Bool) → is_array_name shape.name ≡ array → AgreesAs facts array shape
      → (is_array_name shape.name ≡ true → Contains (names_of set) shape.name)
      → class_named (classes_of facts) shape.name < length (classes_of facts)
  known_by shape true is agrees numbered =
      named_by (classes_of facts) shape.name (subst (λ names. Contains names shape.name)
      (sym (names_listed set)) (numbered is))
  known_by shape false is (class, found, fields) numbered =
      let there = class_there (named_classes facts) shape.name class found in
      named_by (classes_of facts) shape.name
      (subst (λ names. Contains names shape.name)
      (sym (map-append (λ (c : ClassFacts). c.shape.name) (named_classes facts)
      (map (array_class (length facts.program)) facts.arrays)))
      (Contains-append_left (map (λ (c : ClassFacts). c.shape.name) (named_classes facts))
      (map (λ (c : ClassFacts). c.shape.name)
      (map (array_class (length facts.program)) facts.arrays)) shape.name there))

  module _ (found : Directory) (entries : List DirectoryEntry)
      (shapes : All IsShape found.shapes) (agree : AllAgree facts found.shapes)
      (numbered : AreNumbered found.shapes)
      (its : AreEntriesOf facts (made_of set) entries) where
    abbrev added : List DirectoryEntry
    added = lacking found entries

    abbrev whole : Directory
    whole = with_all found added

    its_all : (P : Shape → Type 0) → ((shape : Shape) → IsOwn facts shape → P shape) → All (OfShape P) entries
    its_all P own =
        subst (All (OfShape P)) (sym its.are) (entries_all P its.shapes its.roots
        (λ k d below. own (slice_index_or its.shapes k d) (entry_own facts (made_of set)
        (slice_index_or its.shapes k d) differ
        ((its.all_shapes (slice_index_or its.shapes k d)).0 (Contains-get_or its.shapes k d below)))))

    each_shape : (P : Shape → Type 0) → All P found.shapes → ((shape : Shape) → IsOwn facts shape → P shape)
        → All P whole.shapes
    each_shape P old own =
        shapes_with P found added old (lacking_all (OfShape P) found entries (its_all P own))

    -- each shape agrees with the set
    pub all_agree : All (Agrees facts) whole.shapes
    all_agree =
        shapes_with (Agrees facts) found added (All-from_get_or (Agrees facts) found.shapes no_shape agree)
        (lacking_all (OfShape (Agrees facts)) found entries
        (subst (All (OfShape (Agrees facts))) (sym its.are) (entries_all (Agrees facts) its.shapes its.roots
        (λ k d below. entry_agrees set linked (made_of set) (slice_index_or its.shapes k d)
        ((its.all_shapes (slice_index_or its.shapes k d)).0 (Contains-get_or its.shapes k d below))))))

    pub all_known : All (λ (s : Shape). class_named (classes_of facts) s.name < length (classes_of facts))
        whole.shapes
    all_known = each_shape (λ (s : Shape). class_named (classes_of facts) s.name < length (classes_of facts))
        (All-from_get_or (λ (s : Shape). class_named (classes_of facts) s.name < length (classes_of facts))
        found.shapes no_shape
        (λ k below.
        let shape = slice_index_or found.shapes k no_shape in
        known_by shape (is_array_name shape.name) refl (agree k below)
        (numbered shape (Contains-get_or found.shapes k no_shape below))))
        (λ shape own. own.there)

    pub all_of_class : All (IsOfClass facts) whole.shapes
    all_of_class = each_shape (IsOfClass facts)
        (All-from_get_or (IsOfClass facts) found.shapes no_shape (λ k below.
        let shape = slice_index_or found.shapes k no_shape in
        agreeing_is_of_class facts shape (shapes k no_shape below) (agree k below)
        (like_shape shape (shapes k no_shape below))))
        (λ shape own. own.is)

    root_there : (k : ℕ) (d : StaticFacts) → k < length facts.statics
        → (slice_index_or facts.statics k d).is_root ≡ true
        → Contains whole.roots (slice_index_or facts.statics k d).name
    root_there k d below root =
        let s = slice_index_or facts.statics k d in
        let is_its : Contains its.roots s.name =
        (its.all_roots s.name).1 (s, Contains-get_or facts.statics k d below, root, refl) in
        each_there found entries (RootEntry s.name)
        (subst (λ es. Contains es (RootEntry s.name)) (sym its.are)
        (Contains-append_right (map ShapeEntry its.shapes) (map RootEntry its.roots) (RootEntry s.name)
        (contains_map RootEntry its.roots s.name is_its)))

    -- ---- classes whose objects the code makes

    written_below : (n : ℕ) → is_written set n ≡ true → n < length (names_of set)
    written_below n written = ⊎_elim (λ below. below)
        (λ past.
        let many = classes_counted set in
        let count = length-append (class_names set.files) set.arrays in
        let least = class_names_counted set.files in
        let none : makes set n ≡ false =
        ap (λ o. elim o as (λ x. Bool) [ None ↦ false | Some name ↦ has_text (made_of set) name ])
        (slice_get_past (names_of set) n past) in
        let behind : nat_lt n (class_count set) ≡ false = le-ltb n (class_count set)
        (omega (arith, past, count, least)) in
        let not_written : is_written set n ≡ false = rw (behind, none) refl in
        absurd (false≢true (sym not_written ∙ written)))
        (cases_lt n (length (names_of set)))

    pub written_there : (n : ℕ) → is_written set n ≡ true
        → Contains (shape_names whole) (class_at facts n).shape.name
    written_there n written =
        let below = written_below n written in
        let shape = (class_at facts n).shape in
        let is_its : Contains its.shapes shape =
        (its.all_shapes shape).1 (is_its_shape set (makes_by_name set) n below written) in
        each_there found entries (ShapeEntry shape)
        (subst (λ es. Contains es (ShapeEntry shape)) (sym its.are)
        (Contains-append_left (map ShapeEntry its.shapes) (map RootEntry its.roots) (ShapeEntry shape)
        (contains_map ShapeEntry its.shapes shape is_its)))

    pub suits : (memory : Memory) (lines : List ℕ) (graph : Graph) → length set.files ≤ 4096
        → memory.size ≤ 2 ^ 22
        → IsOpened memory whole lines graph → AreEntries found added
        → Differ (shape_names found) → Differ found.roots → SuitsSet set whole graph
    suits memory lines graph few sized opened are shapes_apart roots_apart =
        let apart = roots_differ found added are roots_apart in
        record {
          opening = is_opening facts memory whole lines graph opened all_of_class all_known apart
              root_there
              (literals_few set.files linked.readable few) sized;
          classes = all_of_class;
          known = all_known;
          complete = written_there;
          roots = names_are facts memory whole lines graph opened all_of_class all_known;
          shapes_differ = shapes_differ found added are shapes_apart;
          roots_differ = apart;
        }
