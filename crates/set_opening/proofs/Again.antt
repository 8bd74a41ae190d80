-- An image that was opened for a class set and has its directory still opens for the set again.
use Rattle.std.proofs.Common.{◌≡◌, ◌≢◌, inl, inr, ℕ, ◌+◌, ◌<◌, ◌≤◌, true, false, ◌||◌, List, [], ◌∷◌, ◌++◌, Option, Some, None}
use Rattle.std.proofs.Common.{Result, Ok, Err, map, length, take, drop, slice_index_or, refl, sym, ap, ◌∙◌, subst, arith, append_assoc, ⊎_elim, if◌then◌else◌}
use Rattle.std.specs.Prelude.{All, Contains, is_some}
use Rattle.std.specs.List.{list_any}
use Rattle.std.specs.Str.{bytes_eq}
use Rattle.std.proofs.lemmas.Bool.{false≢true, le-ltb}
use Rattle.std.proofs.lemmas.List.{append-nil, take-append-drop}
use Rattle.std.proofs.lemmas.List.Elements.{All-append, All-head, All-map, All-tail, Contains-append_left, Contains-append_right}
use Rattle.std.proofs.lemmas.List.Elements.{Contains-get_or}
use Rattle.std.proofs.lemmas.Slice.Eq.{bytes_eq-Decides}
use Rattle.graph_walks.proofs.Lists.{Contains-cons_cases}
use Rattle.graph_model.specs.declared.types.Graph.{Graph}
use Rattle.graph_model.specs.declared.types.Shape.{Shape}
use Rattle.graph_model.specs.Heaps.{no_shape}
use Rattle.run_types.specs.declared.fault.Full.{Full}
use Rattle.line_image.specs.Told.{Told}
use Rattle.line_image.specs.Trace.{Trace}
use Rattle.line_memory.specs.Memory.{IsTelling, Memory, ReadsWord, shown}
use Rattle.image_layout.specs.Places.{max_lines, min_lines}
use Rattle.image_meaning.specs.Appending.{with_all_too}
use Rattle.image_meaning.specs.Checks.{Bad}
use Rattle.image_meaning.specs.Directories.{Directory, with_all, with_entry}
use Rattle.image_meaning.specs.Entries.{DirectoryEntry, RootEntry, ShapeEntry, is_array_name}
use Rattle.image_meaning.specs.Meaning.{StandsFor, meaning}
use Rattle.image_meaning.proofs.Standings.{stands-within}
use Rattle.text_table.specs.Texts.{place_from}
use Rattle.plain_model.specs.Classes.{no_class}
use Rattle.plain_model.specs.Facts.{classes_of}
use Rattle.plain_model.specs.First as first
use Rattle.class_set.specs.Linked.{Linked, class_named, names_of, with_array}
use Rattle.class_set.specs.Facts.{facts_of}
use Rattle.class_set.specs.Sets.{made_of}
use Rattle.class_set.proofs.Differ.{name, names_listed}
use Rattle.class_set.proofs.GivenArrays.{contains_map}
use Rattle.directories.specs.ClassSets.{Agrees, AreEntriesOf, LacksRoomFor}
use Rattle.directories.specs.Kept.{Kept}
use Rattle.directories.specs.Planning.{has_entry, lacking, no_room, roots_left, words_left}
use Rattle.image_recovery.specs.Recovered.{entries_in}
use Rattle.image_recovery.proofs.Directories.{has_by_lines}
use Rattle.image_recovery.proofs.Recovers.{sized}
use Rattle.set_opening.specs.declared.unopened.Unopened.{Unopened}
use Rattle.set_opening.specs.declared.unopened.Unopened.TheVariants.{BadImage, ShapeChanged, Full as FullOf, ImageFailed, OutOfMemory}
use Rattle.set_opening.specs.Again.{HoldsGraph, IsNoRefusal}
use Rattle.set_opening.specs.Arrays.{with_array_of, with_arrays_of}
use Rattle.set_opening.specs.Attached.{IsAttached}
use Rattle.set_opening.specs.Fitted.{IsOtherShape, IsUnfit}
use Rattle.set_opening.specs.Found.{HasDirectory, IsDirectoryIn}
use Rattle.set_opening.specs.Opened.{IsKnownIn, IsOpenedFor}
use Rattle.set_opening.specs.Unopened.{IsAttachFault, IsRecoveryFault, IsUnopened}
use Rattle.set_opening.proofs.Arrays.{arrays_files}
use Rattle.set_opening.proofs.Names.{HasEntry, each_there}
use Rattle.set_opening.proofs.Recovered.{has_spells, one_directory}
use Rattle.set_opening.proofs.Suits.{agrees_on, name_of_named}

-- ---- array types that have numbers get none

there_some : (n : ℕ) (texts : List (List ℕ)) (t : List ℕ) → Contains texts t → is_some (place_from n texts t) ≡ true
there_some n [] t (k, below, is) = absurd (omega (arith, below))
there_some n (u ∷ us) t there =
    elim (bytes_eq u t) as (λ b. bytes_eq u t ≡ b → is_some (if b then Some n else place_from (n + 1) us t) ≡ true) [
      | true ↦ λ same. refl
      | false ↦ λ other. there_some (n + 1) us t (⊎_elim
          (λ (first : u ≡ t). absurd (false≢true (sym other ∙ (bytes_eq-Decides u t).1 first)))
          (λ (later : Contains us t). later)
          (Contains-cons_cases u us t there))
    ] refl

known_named : (set : Linked) (shape : Shape) → IsKnownIn (facts_of set) shape → Contains (names_of set) shape.name
known_named set shape below =
    let classes = classes_of (facts_of set) in
    let k = first.class_named classes shape.name in
    let c = slice_index_or classes k no_class in
    subst (λ ns. Contains ns shape.name) (names_listed set)
    (subst (λ t. Contains (map name classes) t) (name_of_named classes shape.name below)
    (contains_map name classes c (Contains-get_or classes k no_class below)))

one_stays : (set : Linked) (shape : Shape) → IsKnownIn (facts_of set) shape → with_array_of set shape ≡ set
one_stays set shape known =
    let more : Linked = record { files = set.files; arrays = set.arrays ++ shape.name ∷ [] } in
    let has : is_some (class_named set shape.name) ≡ true = there_some 0 (names_of set) shape.name (known_named set shape known) in
    let stays : with_array set shape.name ≡ set = subst (λ b. (if b then set else more) ≡ set) (sym has) refl in
    elim (is_array_name shape.name) as (λ b. (if b then with_array set shape.name else set) ≡ set) [
      | true ↦ stays
      | false ↦ refl
    ]

pub all_stay : (set : Linked) (shapes : List Shape) → All (IsKnownIn (facts_of set)) shapes → with_arrays_of set shapes ≡ set
all_stay set [] known = refl
all_stay set (shape ∷ shapes) known =
    ap (λ (s : Linked). with_arrays_of s shapes) (one_stays set shape (All-head (IsKnownIn (facts_of set)) shape shapes known))
    ∙ all_stay set shapes (All-tail (IsKnownIn (facts_of set)) shape shapes known)

pub arrays_both : (set : Linked) (shapes more : List Shape)
    → with_arrays_of set (shapes ++ more) ≡ with_arrays_of (with_arrays_of set shapes) more
arrays_both set [] more = refl
arrays_both set (shape ∷ shapes) more = arrays_both (with_array_of set shape) shapes more

-- the shapes among entries
unfoldable pub shapes_in : List DirectoryEntry → List Shape
shapes_in [] = []
shapes_in (ShapeEntry shape ∷ entries) = shape ∷ shapes_in entries
shapes_in (RootEntry root ∷ entries) = shapes_in entries

pub shapes_behind : (directory : Directory) (entries : List DirectoryEntry)
    → (with_all directory entries).shapes ≡ directory.shapes ++ shapes_in entries
unfolding shapes_in
shapes_behind directory [] = sym (append-nil directory.shapes)
shapes_behind directory (ShapeEntry shape ∷ entries) =
    shapes_behind (with_entry directory (ShapeEntry shape)) entries
    ∙ append_assoc directory.shapes (shape ∷ []) (shapes_in entries)
shapes_behind directory (RootEntry root ∷ entries) = shapes_behind (with_entry directory (RootEntry root)) entries

shapes_both : (entries later : List DirectoryEntry) → shapes_in (entries ++ later) ≡ shapes_in entries ++ shapes_in later
unfolding shapes_in
shapes_both [] later = refl
shapes_both (ShapeEntry shape ∷ entries) later = ap (λ (shapes : List Shape). shape ∷ shapes) (shapes_both entries later)
shapes_both (RootEntry root ∷ entries) later = shapes_both entries later

-- the shapes with the first entries begin those with all of them
pub shapes_first : (directory : Directory) (entries : List DirectoryEntry) (k : ℕ)
    → (more : List Shape) × ((with_all directory entries).shapes ≡ (with_all directory (take k entries)).shapes ++ more)
shapes_first directory entries k =
    let later = drop k entries in
    let first = take k entries in (
      shapes_in later,
      shapes_behind directory entries
          ∙ ap (λ (es : List DirectoryEntry). directory.shapes ++ shapes_in es) (sym (take-append-drop k entries))
          ∙ ap (λ (shapes : List Shape). directory.shapes ++ shapes) (shapes_both first later)
          ∙ sym (append_assoc directory.shapes (shapes_in first) (shapes_in later))
          ∙ ap (λ (shapes : List Shape). shapes ++ shapes_in later) (sym (shapes_behind directory first)),
    )

All-right : {A : Type 0} (P : A → Type 0) (xs ys : List A) → All P (xs ++ ys) → All P ys
All-right P [] ys all = all
All-right P (x ∷ xs) ys all = All-right P xs ys (All-tail P x (xs ++ ys) all)

-- ---- entries that are there

there_any : (names : List (List ℕ)) (t : List ℕ) → Contains names t → list_any (bytes_eq t) names ≡ true
there_any [] t (k, below, is) = absurd (omega (arith, below))
there_any (n ∷ names) t there =
    elim (bytes_eq t n) as (λ b. bytes_eq t n ≡ b → (b || list_any (bytes_eq t) names) ≡ true) [
      | true ↦ λ same. refl
      | false ↦ λ other. there_any names t (⊎_elim
          (λ (first : n ≡ t). absurd (false≢true (sym other ∙ (bytes_eq-Decides t n).1 (sym first))))
          (λ (later : Contains names t). later)
          (Contains-cons_cases n names t there))
    ] refl

pub has_by : (directory : Directory) (entry : DirectoryEntry) → HasEntry directory entry → has_entry directory entry ≡ true
has_by directory (ShapeEntry shape) there = there_any (map (λ (s : Shape). s.name) directory.shapes) shape.name there
has_by directory (RootEntry root) there = there_any directory.roots root there

none_lacking : (directory : Directory) (entries : List DirectoryEntry) → All (λ entry. has_entry directory entry ≡ true) entries
    → lacking directory entries ≡ []
none_lacking directory [] all = refl
none_lacking directory (e ∷ entries) all =
    let here : has_entry directory e ≡ true = All-head (λ entry. has_entry directory entry ≡ true) e entries all in
    let later = none_lacking directory entries (All-tail (λ entry. has_entry directory entry ≡ true) e entries all) in
    rw here later

room_for_none : (kept : Kept) → no_room kept [] ≡ None
room_for_none kept = rw (le-ltb (words_left kept) 0 (omega arith), le-ltb (roots_left kept) 0 (omega arith)) refl

abbrev ok : {A : Type 0} → A → Result A Bad
ok {A} value = Ok value

same_value : {A : Type 0} (given : Result A Bad) (x y : A) → given ≡ Ok x → given ≡ Ok y → x ≡ y
same_value {A} given x y a b = let e : ok x ≡ ok y = sym a ∙ b in cc

not_both : {A : Type 0} (given : Result A Bad) (x : A) (bad : Bad) → given ≡ Ok x → given ≡ Err bad → ⊥
not_both {A} given x bad a b = let e : ok x ≡ Err bad = sym a ∙ b in cc

-- reads of an image that tells give one value
one_read : (o : Option Trace) → IsTelling o → (l w u v : ℕ) → ReadsWord o l w u → ReadsWord o l w v → v ≡ u
one_read None telling l w u v a b = absurd telling
one_read (Some h) telling l w u v a b = b ∙ sym a

-- ---- an image that has a directory

module _ (size : ℕ) (directory : Directory) (again : Told) (stood : Graph) (holds : HoldsGraph again size directory stood) where
  enough : min_lines ≤ size
  enough = (sized size holds.words stood holds.stands).0

  most : size ≤ max_lines
  most = (sized size holds.words stood holds.stands).1

  module _ (before : Memory) (at : IsAttached again before) where
    size_is : before.size ≡ size
    size_is = at.size ∙ holds.size_is

    same : (l w : ℕ) → l < size → shown before l w ≡ holds.words l w
    same l w below =
        let sized_as = holds.size_is in
        let here : l < again.size = omega (arith, below, sized_as) in
        one_read again.trace holds.telling l w (holds.words l w) (shown before l w) (holds.read l w here) (at.shows l w here)

    has : HasDirectory size (shown before) directory
    has = has_by_lines size holds.words (shown before) directory enough holds.has same

    stands : StandsFor before.size (shown before) stood
    stands =
        subst (λ n. StandsFor n (shown before) stood) (sym size_is)
        (stands-within size holds.words (shown before) stood enough most holds.stands same)

    -- what is found is the directory
    pub same_directory : (found : Directory) → IsDirectoryIn (shown before) found → found ≡ directory
    same_directory found is = one_directory (shown before) found directory is (has_spells size (shown before) directory has)

  -- it is refused for no shape but one of its own
  refused_in : (found : Kept) → entries_in found ≡ directory → (set : Linked) (name : List ℕ)
      → IsOtherShape (facts_of set) found.shapes name → IsOtherShape (facts_of set) directory.shapes name
  refused_in found same_as set name is =
      subst (λ (d : Directory). IsOtherShape (facts_of set) d.shapes name) same_as is

  pub refused_so : (set : Linked) (after : Told) (now : Linked) (name : List ℕ) → IsUnopened again after set now (ShapeChanged name)
      → IsOtherShape (facts_of set) directory.shapes name
  refused_so set after now name (inl (is, same_set)) = let cause : IsAttachFault again (ShapeChanged name) = is.cause in absurd cause
  refused_so set after now name (inr (inl (is, same_set))) =
      let cause : IsRecoveryFault is.before is.memory (ShapeChanged name) = is.cause in absurd cause
  refused_so set after now name (inr (inr is)) =
      let at = is.left.found.attached in
      let cause : IsUnfit set now is.directory (ShapeChanged name) = is.cause in
      refused_in is.directory (same_directory is.left.before at (entries_in is.directory) is.left.found.found_is) set name
      cause.0

module _ (start : Told) (set numbered : Linked) (m : Memory) (kept : Kept) (lines : List ℕ) (graph : Graph) (free : ℕ)
    (opened : IsOpenedFor start set numbered m kept lines graph free) where
  abbrev directory_now : Directory
  directory_now = entries_in kept

  -- its array types have the numbers that the directory asks for
  numbers_stay : with_arrays_of set kept.shapes ≡ numbered
  numbers_stay =
      let added = lacking opened.found opened.entries in
      let more = shapes_in added in
      let shapes : kept.shapes ≡ opened.found.shapes ++ more =
      ap (λ (d : Directory). d.shapes) opened.directory_is ∙ shapes_behind opened.found added in
      ap (with_arrays_of set) shapes
      ∙ arrays_both set opened.found.shapes more
      ∙ ap (λ (s : Linked). with_arrays_of s more) (sym opened.set_is)
      ∙ all_stay numbered more (All-right (IsKnownIn (facts_of numbered)) opened.found.shapes more
      (subst (All (IsKnownIn (facts_of numbered))) shapes opened.suits.known))

  -- no entry of the set is lacking
  module _ (entries : List DirectoryEntry) (its : AreEntriesOf (facts_of numbered) (made_of numbered) entries) where
    all_there : All (λ entry. Contains opened.entries entry) entries
    all_there =
        let old = opened.are_its in
        subst (All (λ entry. Contains opened.entries entry)) (sym its.are)
        (All-append (λ entry. Contains opened.entries entry) (map ShapeEntry its.shapes) (map RootEntry its.roots)
        (All-map (λ entry. Contains opened.entries entry) ShapeEntry its.shapes (λ k d below.
        let shape = slice_index_or its.shapes k d in
        subst (λ es. Contains es (ShapeEntry shape)) (sym old.are)
        (Contains-append_left (map ShapeEntry old.shapes) (map RootEntry old.roots) (ShapeEntry shape)
        (contains_map ShapeEntry old.shapes shape ((old.all_shapes shape).1 ((its.all_shapes shape).0 (Contains-get_or its.shapes k d below)))))))
        (All-map (λ entry. Contains opened.entries entry) RootEntry its.roots (λ k d below.
        let root = slice_index_or its.roots k d in
        subst (λ es. Contains es (RootEntry root)) (sym old.are)
        (Contains-append_right (map ShapeEntry old.shapes) (map RootEntry old.roots) (RootEntry root)
        (contains_map RootEntry old.roots root ((old.all_roots root).1 ((its.all_roots root).0 (Contains-get_or its.roots k d below))))))))

    nothing_lacking : lacking directory_now entries ≡ []
    nothing_lacking = none_lacking directory_now entries (λ k d below.
        let entry = slice_index_or entries k d in
        has_by directory_now entry
        (subst (λ (d : Directory). HasEntry d entry) (sym opened.directory_is)
        (each_there opened.found opened.entries entry (all_there k d below))))

  module _ (again : Told) (stood : Graph) (holds : HoldsGraph again start.size directory_now stood) where
    enough_lines : min_lines ≤ start.size
    enough_lines = (sized start.size holds.words stood holds.stands).0

    most_lines : start.size ≤ max_lines
    most_lines = (sized start.size holds.words stood holds.stands).1

    found_same : (before : Memory) → IsAttached again before → (found : Directory) → IsDirectoryIn (shown before) found
        → found ≡ directory_now
    found_same before at found is = same_directory start.size directory_now again stood holds before at found is

    same_numbers : (before : Memory) → IsAttached again before → (found : Directory) → IsDirectoryIn (shown before) found
        → with_arrays_of set found.shapes ≡ numbered
    same_numbers before at found is =
        ap (λ (d : Directory). with_arrays_of set d.shapes) (found_same before at found is) ∙ numbers_stay

    -- ---- it isn't refused

    unattached : (why : Unopened) → IsAttachFault again why → IsNoRefusal why
    unattached (BadImage line reason) cause = ⊎_elim
        (λ (few : again.size < min_lines). absurd (let s = holds.size_is in omega (arith, few, s, enough_lines)))
        (λ (many : max_lines < again.size). absurd (let s = holds.size_is in omega (arith, many, s, most_lines)))
        cause.2
    unattached (ShapeChanged other) cause = absurd cause
    unattached (FullOf full) cause = absurd cause
    unattached ImageFailed cause = tt
    unattached OutOfMemory cause = tt

    unrecovered : (before n : Memory) (at : IsAttached again before) (why : Unopened) → IsRecoveryFault before n why → IsNoRefusal why
    unrecovered before n at (BadImage line reason) cause =
        absurd (not_both (meaning before.size (shown before)) stood (line, reason) (stands start.size directory_now again stood holds before at) cause.0)
    unrecovered before n at (ShapeChanged other) cause = absurd cause
    unrecovered before n at (FullOf full) cause = absurd cause
    unrecovered before n at ImageFailed cause = tt
    unrecovered before n at OutOfMemory cause = tt

    -- each of its shapes agrees with the set
    no_other : (found : Kept) → entries_in found ≡ directory_now → (other : List ℕ) → IsOtherShape (facts_of set) found.shapes other → ⊥
    no_other found same_as other is =
        let shapes : found.shapes ≡ kept.shapes = ap (λ (d : Directory). d.shapes) same_as in
        let there : is.at < length kept.shapes =
        subst (λ (ss : List Shape). is.at < length ss) shapes is.first.there in
        is.first.other
        (subst (λ (ss : List Shape). Agrees (facts_of set) (slice_index_or ss is.at no_shape)) (sym shapes)
        (agrees_on numbered set (slice_index_or kept.shapes is.at no_shape)
        (sym (ap (λ (s : Linked). s.files) opened.set_is ∙ arrays_files set opened.found.shapes))
        (opened.agree is.at there)))

    -- and there is room for no entry
    no_want : (found : Kept) → entries_in found ≡ directory_now → (now : Linked) → now ≡ numbered → (full : Full)
        → LacksRoomFor (facts_of now) (made_of now) found full → ⊥
    no_want found same_as now numbers full lacks =
        let its : AreEntriesOf (facts_of numbered) (made_of numbered) lacks.entries =
        subst (λ (s : Linked). AreEntriesOf (facts_of s) (made_of s) lacks.entries) numbers lacks.are_its in
        let none : lacking (entries_in found) lacks.entries ≡ [] =
        ap (λ (d : Directory). lacking d lacks.entries) same_as ∙ nothing_lacking lacks.entries its in
        let room : no_room found [] ≡ Some full = subst (λ es. no_room found es ≡ Some full) none lacks.lacks in
        let wrong : None ≡ Some full = sym (room_for_none found) ∙ room in
        cc

    unfit : (found : Kept) → entries_in found ≡ directory_now → with_arrays_of set found.shapes ≡ numbered → (now : Linked) (why : Unopened)
        → IsUnfit set now found why → IsNoRefusal why
    unfit found same_as numbers now (BadImage line reason) cause = absurd cause
    unfit found same_as numbers now (ShapeChanged other) cause = absurd (no_other found same_as other cause.0)
    unfit found same_as numbers now (FullOf full) cause = absurd (no_want found same_as now (cause.2 ∙ numbers) full cause.1)
    unfit found same_as numbers now ImageFailed cause = tt
    unfit found same_as numbers now OutOfMemory cause = tt

    pub unrefused : (after : Told) (now : Linked) (why : Unopened) → IsUnopened again after set now why → IsNoRefusal why
    unrefused after now why (inl (is, same_set)) = unattached why is.cause
    unrefused after now why (inr (inl (is, same_set))) = unrecovered is.before is.memory is.left.attached why is.cause
    unrefused after now why (inr (inr is)) =
        let at = is.left.found.attached in
        let found = is.left.found.found_is in
        unfit is.directory (found_same is.left.before at (entries_in is.directory) found)
        (same_numbers is.left.before at (entries_in is.directory) found) now why is.cause

    -- ---- it opens as it was left

    module _ (now : Linked) (n : Memory) (found : Kept) (places : List ℕ) (opening : Graph) (behind : ℕ)
        (reopened : IsOpenedFor again set now n found places opening behind) where
      abbrev had : Directory
      had = reopened.found

      had_is : had ≡ directory_now
      had_is = found_same reopened.before reopened.attached had reopened.found_is

      now_is : now ≡ numbered
      now_is = reopened.set_is ∙ same_numbers reopened.before reopened.attached had reopened.found_is

      nothing : lacking had reopened.entries ≡ []
      nothing =
          ap (λ (d : Directory). lacking d reopened.entries) had_is
          ∙ nothing_lacking reopened.entries
          (subst (λ (s : Linked). AreEntriesOf (facts_of s) (made_of s) reopened.entries) now_is reopened.are_its)

      pub left_so : (entries_in found ≡ directory_now) × (opening ≡ stood) × (now ≡ numbered)
      left_so = (
        reopened.directory_is ∙ ap (λ es. with_all had es) nothing ∙ had_is,
        reopened.graph_is ∙ ap (λ es. with_all_too reopened.stood es) nothing
            ∙ same_value (meaning reopened.before.size (shown reopened.before)) reopened.stood stood reopened.stands
            (stands start.size directory_now again stood holds reopened.before reopened.attached),
        now_is,
      )
