-- Images that are refused for want of room, and images that had the first of the entries that their directory lacked.
use Rattle.std.proofs.Common.{◌≡◌, ◌≢◌, ◌⊎◌, inl, inr, ℕ, zero, suc, ◌+◌, ◌-◌, ◌<◌, ◌≤◌, ◌^◌, min, Bool, true, false}
use Rattle.std.proofs.Common.{List, [], ◌∷◌, ◌++◌, Option, Some, None, Ok, map, length, take, drop, refl, sym, ap, ◌∙◌, subst, arith}
use Rattle.std.proofs.Common.{⊎_elim, slice_index_or}
use Rattle.std.specs.Prelude.{All, Contains}
use Rattle.std.specs.List.{AllByRecursion, list_any}
use Rattle.std.specs.List.Sorted.{IsStrictlySortedBy}
use Rattle.std.specs.Str.{bytes_eq}
use Rattle.std.specs.Ordering.{is_eq, nat_cmp}
use Rattle.std.specs.declared.cmp.Ordering.TheVariants.{Less}
use Rattle.std.specs.Cmp.Lexicographic.{nat_list_cmp_total, slice_cmp}
use Rattle.std.proofs.lemmas.Bool.{cases_lt, le-ltb, lt-ltb}
use Rattle.std.proofs.lemmas.List.{length-append, map-append, take-append-drop}
use Rattle.std.proofs.lemmas.List.Elements.{All-cons, All-head, All-nil, All-tail, All-take, Contains-append_left, Contains-append_right}
use Rattle.std.proofs.lemmas.List.Elements.{Contains-get_or}
use Rattle.std.proofs.lemmas.List.FromFn.{length-map-range_with_len}
use Rattle.std.proofs.lemmas.Map.Text.{is_eq-slice_cmp}
use Rattle.std.proofs.lemmas.Slice.Eq.{bytes_eq-Decides}
use Rattle.graph_walks.proofs.Lists.{Contains-cons_cases, Contains-head, Contains-nil, Contains-tail}
use Rattle.graph_model.specs.declared.types.Graph.{Graph}
use Rattle.graph_model.specs.declared.types.Shape.{Shape}
use Rattle.run_types.specs.declared.fault.Full.{Full}
use Rattle.run_types.specs.declared.fault.Which.{Which}
use Rattle.run_types.specs.declared.fault.Which.TheVariants.{VolatileWords, ImageLines, LogEntries, Threads, FrameSlots, Acts, Monitors}
use Rattle.run_types.specs.declared.fault.Which.TheVariants.{DirectoryWords, Roots, Files, FileBytes}
use Rattle.line_image.specs.Told.{Told}
use Rattle.line_memory.specs.Memory.{Memory, shown}
use Rattle.image_layout.specs.Places.{directory_line, directory_word, directory_words, root_slots}
use Rattle.image_meaning.specs.Checks.{Words}
use Rattle.image_meaning.specs.Directories.{Directory, directory_of, directory_words_of, has_name, no_entries, spelled_all, with_all}
use Rattle.image_meaning.specs.Directories.{with_entries, with_entry}
use Rattle.image_meaning.specs.Entries.{DirectoryEntry, RootEntry, ShapeEntry, spelled}
use Rattle.image_meaning.specs.Laws.{Opens}
use Rattle.image_meaning.proofs.Directories.{entries-taken}
use Rattle.image_meaning.proofs.FoundImage.{directory-few}
use Rattle.image_meaning.proofs.Standing.{use-within}
use Rattle.plain_model.specs.BuiltIn.{array_class}
use Rattle.plain_model.specs.Facts.{SetFacts, classes_of}
use Rattle.class_set.specs.Linked.{Linked}
use Rattle.class_set.specs.Facts.{facts_of}
use Rattle.class_set.specs.Sets.{made_of}
use Rattle.class_set.proofs.GivenArrays.{contains_map}
use Rattle.directories.specs.ClassSets.{AreEntriesOf, AreInOrder, IsClassShape, IsMadeShape, LacksRoomFor, named_classes}
use Rattle.directories.specs.Kept.{Kept}
use Rattle.directories.specs.Planning.{AreOthers, has_entry, lacking, no_room, root_count, roots_left, unless_room, words_left}
use Rattle.directories.proofs.Grows.{spelled_both}
use Rattle.directories.proofs.Plans.{none_of_room}
use Rattle.image_recovery.specs.Recovered.{entries_in}
use Rattle.set_opening.specs.declared.unopened.Unopened.TheVariants.{Full as FullOf}
use Rattle.set_opening.specs.Again.{HoldsGraph, IsOverfull, LacksRoom, ReadyDirectoriesHadRoom, StoredDirectoriesLackNoRoom}
use Rattle.set_opening.specs.Arrays.{with_arrays_of}
use Rattle.set_opening.specs.Fitted.{IsUnfit}
use Rattle.set_opening.specs.Found.{HasDirectory, IsFound}
use Rattle.set_opening.specs.Opened.{IsKnownIn}
use Rattle.set_opening.specs.Unopened.{IsAttachFault, IsRecoveryFault, IsUnopened}
use Rattle.set_opening.proofs.Again.{all_stay, arrays_both, has_by, same_directory, shapes_behind, shapes_in}
use Rattle.set_opening.proofs.Classes.{named_there}
use Rattle.set_opening.proofs.Names.{OfShape, all_there, entries_all, lacking_all, own_there, there_by}
use Rattle.set_opening.proofs.Ready.{had_whole, was_read, with_both}

-- ---- how many words and roots a directory has

-- its entries' words
words_of : Directory → ℕ
words_of directory = length (spelled_all (map ShapeEntry directory.shapes ++ map RootEntry directory.roots))

spelled_long : (xs ys : List DirectoryEntry) → length (spelled_all (xs ++ ys)) ≡ length (spelled_all xs) + length (spelled_all ys)
spelled_long xs ys = ap length (spelled_both xs ys) ∙ length-append (spelled_all xs) (spelled_all ys)

words_one : (directory : Directory) (entry : DirectoryEntry)
    → words_of (with_entry directory entry) ≡ words_of directory + length (spelled entry)
unfolding words_of
words_one directory (ShapeEntry shape) =
    let shapes = map ShapeEntry directory.shapes in
    let roots = map RootEntry directory.roots in
    let one = ShapeEntry shape ∷ [] in
    let before : length (spelled_all (shapes ++ roots)) ≡ length (spelled_all shapes) + length (spelled_all roots) = spelled_long shapes roots in
    let behind : length (spelled_all ((shapes ++ one) ++ roots)) ≡ length (spelled_all (shapes ++ one)) + length (spelled_all roots) =
    spelled_long (shapes ++ one) roots in
    let more : length (spelled_all (shapes ++ one)) ≡ length (spelled_all shapes) + length (spelled_all one) = spelled_long shapes one in
    let own : length (spelled_all one) ≡ length (spelled (ShapeEntry shape)) + 0 = length-append (spelled (ShapeEntry shape)) [] in
    ap (λ (es : List DirectoryEntry). length (spelled_all (es ++ roots))) (map-append ShapeEntry directory.shapes (shape ∷ []))
    ∙ omega (arith, before, behind, more, own)
words_one directory (RootEntry name) =
    let shapes = map ShapeEntry directory.shapes in
    let roots = map RootEntry directory.roots in
    let one = RootEntry name ∷ [] in
    let before : length (spelled_all (shapes ++ roots)) ≡ length (spelled_all shapes) + length (spelled_all roots) = spelled_long shapes roots in
    let behind : length (spelled_all (shapes ++ (roots ++ one))) ≡ length (spelled_all shapes) + length (spelled_all (roots ++ one)) =
    spelled_long shapes (roots ++ one) in
    let more : length (spelled_all (roots ++ one)) ≡ length (spelled_all roots) + length (spelled_all one) = spelled_long roots one in
    let own : length (spelled_all one) ≡ length (spelled (RootEntry name)) + 0 = length-append (spelled (RootEntry name)) [] in
    ap (λ (es : List DirectoryEntry). length (spelled_all (shapes ++ es))) (map-append RootEntry directory.roots (name ∷ []))
    ∙ omega (arith, before, behind, more, own)

words_all : (directory : Directory) (entries : List DirectoryEntry)
    → words_of (with_all directory entries) ≡ words_of directory + length (spelled_all entries)
words_all directory [] = omega arith
words_all directory (e ∷ entries) =
    let later = words_all (with_entry directory e) entries in
    let here = words_one directory e in
    let both : length (spelled e ++ spelled_all entries) ≡ length (spelled e) + length (spelled_all entries) =
    length-append (spelled e) (spelled_all entries) in
    omega (arith, later, here, both)

roots_all : (directory : Directory) (entries : List DirectoryEntry)
    → length (with_all directory entries).roots ≡ length directory.roots + root_count entries
roots_all directory [] = omega arith
roots_all directory (ShapeEntry shape ∷ entries) = roots_all (with_entry directory (ShapeEntry shape)) entries
roots_all directory (RootEntry name ∷ entries) =
    let later = roots_all (with_entry directory (RootEntry name)) entries in
    let one : length (directory.roots ++ name ∷ []) ≡ length directory.roots + 1 = length-append directory.roots (name ∷ []) in
    omega (arith, later, one)

-- ---- what is refused for want of room

the_full : (which : Which) (left need : ℕ) → Full
the_full which left need = record { which = which; need = min need (2 ^ 64 - 1); left = left }

-- it is this that there is too little of, or what comes later
which_of : (which : Which) (left need : ℕ) (later : Option Full) (full : Full) → unless_room which left need later ≡ Some full
    → ((left < need) × (full.which ≡ which)) ⊎ (later ≡ Some full)
unfolding the_full
which_of which left need later full is = ⊎_elim
    (λ (over : left < need).
    let told : Option Full = Some (the_full which left need) in
    let same : told ≡ Some full = rw (lt-ltb left need over) at is in
    let one : the_full which left need ≡ full = cc in
    inl (over, sym (ap (λ (f : Full). f.which) one)))
    (λ (fits : need ≤ left). inr (rw (le-ltb left need fits) at is))
    (cases_lt left need)

none_some : (full : Full) → None ≡ Some full → ⊥
none_some full is = cc

-- a directory of which nothing is planned is too large with those entries for which it has no room
too_large : (kept : Kept) (entries : List DirectoryEntry) (full : Full) → kept.left ≡ [] → kept.used ≡ words_of (entries_in kept)
    → no_room kept entries ≡ Some full → IsOverfull (with_all (entries_in kept) entries) full.which
unfolding words_of
too_large kept entries full unplanned used lacks =
    let whole = with_all (entries_in kept) entries in
    let none : length (spelled_all kept.left) ≡ 0 = ap (λ (es : List DirectoryEntry). length (spelled_all es)) unplanned in
    let words = words_all (entries_in kept) entries in
    let roots = roots_all (entries_in kept) entries in
    ⊎_elim
    (λ (first : (words_left kept < length (spelled_all entries)) × (full.which ≡ DirectoryWords)).
    let over = first.0 in
    let large : IsOverfull whole DirectoryWords = omega (arith, over, none, words, used) in
    subst (IsOverfull whole) (sym first.1) large)
    (λ later. ⊎_elim
    (λ (second : (roots_left kept < root_count entries) × (full.which ≡ Roots)).
    let over = second.0 in
    let large : IsOverfull whole Roots = omega (arith, over, roots) in
    subst (IsOverfull whole) (sym second.1) large)
    (λ (nothing : None ≡ Some full). absurd (none_some full nothing))
    (which_of Roots (roots_left kept) (root_count entries) None full later))
    (which_of DirectoryWords (words_left kept) (length (spelled_all entries))
    (unless_room Roots (roots_left kept) (root_count entries) None) full lacks)

module _ (start : Told) (before m : Memory) (found : Kept) (stood : Graph) (lines : List ℕ) (free : ℕ)
    (is : IsFound start before m found stood lines free) where
  used_words : found.used ≡ words_of (entries_in found)
  unfolding words_of
  used_words =
      let read = was_read m found is.opens is.unplanned is.begins is.used in
      let all = words_all no_entries read.had in
      let had : words_of (with_all no_entries read.had) ≡ words_of (entries_in found) =
      ap words_of (had_whole m found is.opens is.unplanned is.begins is.used) in
      let used = read.used in
      omega (arith, all, had, used)

  found_lacks : (set now : Linked) (full : Full) → IsUnfit set now found (FullOf full) → LacksRoom set (entries_in found) full.which
  found_lacks set now full cause =
      let lacks : LacksRoomFor (facts_of (with_arrays_of set found.shapes)) (made_of (with_arrays_of set found.shapes)) found full =
      subst (λ (s : Linked). LacksRoomFor (facts_of s) (made_of s) found full) cause.2 cause.1 in
      record {
        entries = lacks.entries;
        are_its = lacks.are_its;
        too_large = too_large found (lacking (entries_in found) lacks.entries) full is.unplanned used_words lacks.lacks;
      }

-- so does the directory of any image that is refused for it
pub full_so : (size : ℕ) (directory : Directory) (again : Told) (stood : Graph) → HoldsGraph again size directory stood
    → (set : Linked) (after : Told) (now : Linked) (full : Full) → IsUnopened again after set now (FullOf full)
    → LacksRoom set directory full.which
full_so size directory again stood holds set after now full (inl (is, same_set)) =
    let cause : IsAttachFault again (FullOf full) = is.cause in absurd cause
full_so size directory again stood holds set after now full (inr (inl (is, same_set))) =
    let cause : IsRecoveryFault is.before is.memory (FullOf full) = is.cause in absurd cause
full_so size directory again stood holds set after now full (inr (inr is)) =
    let found = is.left.found in
    let cause : IsUnfit set now is.directory (FullOf full) = is.cause in
    subst (λ (d : Directory). LacksRoom set d full.which)
    (same_directory size directory again stood holds is.left.before found.attached (entries_in is.directory) found.found_is)
    (found_lacks again is.left.before is.left.memory is.directory is.graph is.left.lines is.left.free found set now full cause)

-- ---- a set has one list of entries

less_differs : (a b : List ℕ) → slice_cmp nat_cmp a b ≡ Less → a ≢ b
less_differs a b less same =
    let no : false ≡ true = ap is_eq (sym less) ∙ is_eq-slice_cmp a b ∙ (bytes_eq-Decides a b).1 same in
    absurd (cc)

not_both_less : (a b : List ℕ) → slice_cmp nat_cmp a b ≡ Less → slice_cmp nat_cmp b a ≡ Less → ⊥
not_both_less a b one other = less_differs a a (nat_list_cmp_total.trans a b a one other) refl

below_each : {A : Type 0} (name : A → List ℕ) (first : List ℕ) (xs : List A) (x : A)
    → AllByRecursion (λ y. slice_cmp nat_cmp first y ≡ Less) (map name xs) → Contains xs x → slice_cmp nat_cmp first (name x) ≡ Less
below_each name first [] x all there = absurd (Contains-nil x there)
below_each name first (y ∷ ys) x all there = ⊎_elim
    (λ (here : y ≡ x). subst (λ z. slice_cmp nat_cmp first (name z) ≡ Less) here all.0)
    (λ (later : Contains ys x). below_each name first ys x all.1 later)
    (Contains-cons_cases y ys x there)

-- lists in the order of names that contain the same are one
one_order : {A : Type 0} (name : A → List ℕ) (xs ys : List A) → AreInOrder (map name xs) → AreInOrder (map name ys)
    → ((x : A) → Contains xs x → Contains ys x) → ((x : A) → Contains ys x → Contains xs x) → xs ≡ ys
unfolding IsStrictlySortedBy
one_order name [] [] in_order other_order there back = refl
one_order name (x ∷ xs) [] in_order other_order there back = absurd (Contains-nil x (there x (Contains-head x xs)))
one_order name [] (y ∷ ys) in_order other_order there back = absurd (Contains-nil y (back y (Contains-head y ys)))
one_order {A} name (x ∷ xs) (y ∷ ys) in_order other_order there back =
    let same : x ≡ y = ⊎_elim
    (λ (first : y ≡ x). sym first)
    (λ (later : Contains ys x). ⊎_elim
    (λ (first : x ≡ y). first)
    (λ (after : Contains xs y).
    absurd (not_both_less (name y) (name x) (below_each name (name y) ys x other_order.0 later) (below_each name (name x) xs y in_order.0 after)))
    (Contains-cons_cases x xs y (back y (Contains-head y ys))))
    (Contains-cons_cases y ys x (there x (Contains-head x xs))) in
    let rest : xs ≡ ys = one_order name xs ys in_order.1 other_order.1
    (λ z is. ⊎_elim
    (λ (first : y ≡ z). absurd (less_differs (name x) (name z) (below_each name (name x) xs z in_order.0 is) (ap name (same ∙ first))))
    (λ later. later)
    (Contains-cons_cases y ys z (there z (Contains-tail x xs z is))))
    (λ z is. ⊎_elim
    (λ (first : x ≡ z). absurd (less_differs (name y) (name z) (below_each name (name y) ys z other_order.0 is) (ap name (sym same ∙ first))))
    (λ later. later)
    (Contains-cons_cases x xs z (back z (Contains-tail y ys z is)))) in
    ap (λ z. z ∷ xs) same ∙ ap (λ zs. y ∷ zs) rest

one_list : (set : SetFacts) (made : List (List ℕ)) (entries others : List DirectoryEntry) → AreEntriesOf set made entries
    → AreEntriesOf set made others → entries ≡ others
one_list set made entries others a b =
    let shapes : a.shapes ≡ b.shapes = one_order (λ (s : Shape). s.name) a.shapes b.shapes a.shapes_in_order b.shapes_in_order
    (λ s there. (b.all_shapes s).1 ((a.all_shapes s).0 there)) (λ s there. (a.all_shapes s).1 ((b.all_shapes s).0 there)) in
    let roots : a.roots ≡ b.roots = one_order (λ (n : List ℕ). n) a.roots b.roots (own_names a.roots a.roots_in_order)
    (own_names b.roots b.roots_in_order)
    (λ n there. (b.all_roots n).1 ((a.all_roots n).0 there)) (λ n there. (a.all_roots n).1 ((b.all_roots n).0 there)) in
    a.are ∙ ap (λ (ss : List Shape). map ShapeEntry ss ++ map RootEntry a.roots) shapes
    ∙ ap (λ (ns : List (List ℕ)). map ShapeEntry b.shapes ++ map RootEntry ns) roots ∙ sym b.are
  where
    same_names : (names : List (List ℕ)) → map (λ (n : List ℕ). n) names ≡ names
    same_names [] = refl
    same_names (n ∷ names) = ap (λ (ns : List (List ℕ)). n ∷ ns) (same_names names)

    own_names : (names : List (List ℕ)) → AreInOrder names → AreInOrder (map (λ (n : List ℕ). n) names)
    own_names names in_order = subst AreInOrder (sym (same_names names)) in_order

-- ---- a directory that an image has

-- the words in use are those of its entries
words_read : (words : Words) (used : ℕ) (directory : Directory)
    → with_entries used 0 no_entries (directory_words_of words used) ≡ Ok directory → words_of directory ≡ used
unfolding words_of
words_read words used directory is =
    let read = entries-taken used 0 no_entries directory (directory_words_of words used) is in
    let many : length (spelled_all read.0) ≡ used =
    ap length (sym read.1) ∙ length-map-range_with_len (λ i. words (directory_line i) (directory_word i)) 0 used in
    let all = words_all no_entries read.0 in
    let same : words_of directory ≡ words_of (with_all no_entries read.0) = ap words_of read.3 in
    omega (arith, many, all, same)

-- an image has room for them
opened_words : (size : ℕ) (words : Words) (directory : Directory) → Opens size words directory → words_of directory ≤ directory_words
unfolding directory_of
opened_words size words directory opens =
    let read = words_read words (words 0 3) directory opens.entries in
    let within = use-within size (words 0) opens.used opens.super in
    omega (arith, read, within)

-- so does one that may be blank
few_words : (size : ℕ) (words : Words) (directory : Directory) → HasDirectory size words directory → words_of directory ≤ directory_words
unfolding words_of
few_words size words directory (inl blank) =
    let none : words_of directory ≡ words_of no_entries = ap words_of blank.1 in omega (arith, none)
few_words size words directory (inr opens) = opened_words size words directory opens

-- and a slot for each root
few_roots : (size : ℕ) (words : Words) (directory : Directory) → HasDirectory size words directory → length directory.roots ≤ root_slots
few_roots size words directory (inl blank) =
    let none : length directory.roots ≡ 0 = ap (λ (d : Directory). length d.roots) blank.1 in omega (arith, none)
few_roots size words directory (inr opens) = directory-few words directory opens.entries

-- so it isn't too large
not_overfull : (size : ℕ) (words : Words) (directory : Directory) → HasDirectory size words directory → (which : Which)
    → IsOverfull directory which → ⊥
unfolding words_of
not_overfull size words directory has DirectoryWords large =
    let few = few_words size words directory has in omega (arith, few, large)
not_overfull size words directory has Roots large = let few = few_roots size words directory has in omega (arith, few, large)
not_overfull size words directory has VolatileWords large = large
not_overfull size words directory has ImageLines large = large
not_overfull size words directory has LogEntries large = large
not_overfull size words directory has Threads large = large
not_overfull size words directory has FrameSlots large = large
not_overfull size words directory has Acts large = large
not_overfull size words directory has Monitors large = large
not_overfull size words directory has Files large = large
not_overfull size words directory has FileBytes large = large

-- nor with the set's entries, of which it lacks none
pub stored_has_room : StoredDirectoriesLackNoRoom
stored_has_room size words directory has set entries its none which lacks =
    let numbered = with_arrays_of set directory.shapes in
    let same : lacks.entries ≡ entries = one_list (facts_of numbered) (made_of numbered) lacks.entries entries lacks.are_its its in
    let nothing : lacking directory lacks.entries ≡ [] = ap (lacking directory) same ∙ none in
    let large : IsOverfull (with_all directory []) which =
    subst (λ es. IsOverfull (with_all directory es) which) nothing lacks.too_large in
    not_overfull size words directory has which large

-- ---- what was made ready had room

-- there is enough of this, and of what comes later
none_later : (which : Which) (left need : ℕ) (later : Option Full) → unless_room which left need later ≡ None → later ≡ None
none_later which left need later none =
    let fits = none_of_room which left need later none in
    rw (le-ltb left need fits) at none

module _ (kept : Kept) (entries : List DirectoryEntry) (unplanned : kept.left ≡ []) (used : kept.used ≡ words_of (entries_in kept))
    (words : words_of (entries_in kept) ≤ directory_words) (roots : length kept.roots ≤ root_slots) (room : no_room kept entries ≡ None) where
  abbrev grown : Directory
  grown = with_all (entries_in kept) entries

  enough_words : IsOverfull grown DirectoryWords → ⊥
  unfolding words_of
  enough_words large =
      let none : length (spelled_all kept.left) ≡ 0 = ap (λ (es : List DirectoryEntry). length (spelled_all es)) unplanned in
      let fits =
      none_of_room DirectoryWords (words_left kept) (length (spelled_all entries)) (unless_room Roots (roots_left kept) (root_count entries) None)
      room in
      let all = words_all (entries_in kept) entries in
      omega (arith, none, fits, all, used, words, large)

  enough_roots : IsOverfull grown Roots → ⊥
  enough_roots large =
      let fits = none_of_room Roots (roots_left kept) (root_count entries) None
      (none_later DirectoryWords (words_left kept) (length (spelled_all entries))
      (unless_room Roots (roots_left kept) (root_count entries) None) room) in
      let all = roots_all (entries_in kept) entries in
      omega (arith, fits, all, roots, large)

  -- a directory isn't too large with the entries for which it has room
  not_grown_over : (which : Which) → IsOverfull grown which → ⊥
  not_grown_over DirectoryWords large = enough_words large
  not_grown_over Roots large = enough_roots large
  not_grown_over VolatileWords large = large
  not_grown_over ImageLines large = large
  not_grown_over LogEntries large = large
  not_grown_over Threads large = large
  not_grown_over FrameSlots large = large
  not_grown_over Acts large = large
  not_grown_over Monitors large = large
  not_grown_over Files large = large
  not_grown_over FileBytes large = large

-- so the set's entries were not too many
pub ready_had_room : ReadyDirectoriesHadRoom
ready_had_room start before m found directory stood graph lines free is old set fitted which lacks =
    let plan = fitted.planned in
    let theirs : AreEntriesOf (facts_of set) (made_of set) lacks.entries =
    subst (λ (s : Linked). AreEntriesOf (facts_of s) (made_of s) lacks.entries) (sym fitted.set_is) lacks.are_its in
    let same : lacks.entries ≡ plan.entries =
    one_list (facts_of set) (made_of set) lacks.entries plan.entries theirs plan.are_its in
    let large : IsOverfull (with_all (entries_in found) (lacking (entries_in found) plan.entries)) which =
    subst (λ es. IsOverfull (with_all (entries_in found) (lacking (entries_in found) es)) which) same lacks.too_large in
    not_grown_over found (lacking (entries_in found) plan.entries) is.unplanned (used_words start before m found stood lines free is)
    (opened_words m.size (shown m) (entries_in found) is.opens) (directory-few (shown m) (entries_in found) is.opens.entries) plan.room
    which large

-- ---- no two of them are of one kind and name

abbrev AreApart : List DirectoryEntry → Type 0
AreApart [] = Unit {0}
AreApart (entry ∷ entries) = AllByRecursion (AreOthers entry) entries × AreApart entries

other_roots : (root : List ℕ) (roots : List (List ℕ)) → AllByRecursion (λ y. slice_cmp nat_cmp root y ≡ Less) roots
    → AllByRecursion (AreOthers (RootEntry root)) (map RootEntry roots)
other_roots root [] below = tt
other_roots root (r ∷ roots) below = (less_differs root r below.0, other_roots root roots below.1)

roots_apart : (roots : List (List ℕ)) → AreInOrder roots → AreApart (map RootEntry roots)
unfolding IsStrictlySortedBy
roots_apart [] in_order = tt
roots_apart (r ∷ roots) in_order = (other_roots r roots in_order.0, roots_apart roots in_order.1)

no_root : (shape : Shape) (roots : List (List ℕ)) → AllByRecursion (AreOthers (ShapeEntry shape)) (map RootEntry roots)
no_root shape [] = tt
no_root shape (r ∷ roots) = (tt, no_root shape roots)

other_shapes : (shape : Shape) (shapes : List Shape) (roots : List (List ℕ))
    → AllByRecursion (λ y. slice_cmp nat_cmp shape.name y ≡ Less) (map (λ (s : Shape). s.name) shapes)
    → AllByRecursion (AreOthers (ShapeEntry shape)) (map ShapeEntry shapes ++ map RootEntry roots)
other_shapes shape [] roots below = no_root shape roots
other_shapes shape (s ∷ shapes) roots below = (less_differs shape.name s.name below.0, other_shapes shape shapes roots below.1)

all_apart : (shapes : List Shape) (roots : List (List ℕ)) → AreInOrder (map (λ (s : Shape). s.name) shapes) → AreInOrder roots
    → AreApart (map ShapeEntry shapes ++ map RootEntry roots)
unfolding IsStrictlySortedBy
all_apart [] roots in_order roots_order = roots_apart roots roots_order
all_apart (s ∷ shapes) roots in_order roots_order =
    (other_shapes s shapes roots in_order.0, all_apart shapes roots in_order.1 roots_order)

entries_apart : (set : SetFacts) (made : List (List ℕ)) (entries : List DirectoryEntry) → AreEntriesOf set made entries → AreApart entries
entries_apart set made entries are =
    subst AreApart (sym are.are) (all_apart are.shapes are.roots are.shapes_in_order are.roots_in_order)

-- ---- what a directory lacks once it has the first of what it lacked

bool_or : (b : Bool) → (b ≡ true) ⊎ (b ≡ false)
bool_or true = inl refl
bool_or false = inr refl

any_more : (p : List ℕ → Bool) (names : List (List ℕ)) (name : List ℕ) → p name ≡ false → list_any p (names ++ name ∷ []) ≡ list_any p names
any_more p [] name not_it = rw not_it refl
any_more p (n ∷ names) name not_it = rw (any_more p names name not_it) refl

other_name : (names : List (List ℕ)) (a name : List ℕ) → a ≢ name → has_name (names ++ a ∷ []) name ≡ has_name names name
other_name names a name other = any_more (bytes_eq name) names a
    (⊎_elim
    (λ (same : bytes_eq name a ≡ true). absurd (other (sym ((bytes_eq-Decides name a).0 same))))
    (λ (differs : bytes_eq name a ≡ false). differs)
    (bool_or (bytes_eq name a)))

other_entry : (directory : Directory) (entry x : DirectoryEntry) → AreOthers entry x
    → has_entry (with_entry directory entry) x ≡ has_entry directory x
other_entry directory (ShapeEntry a) (ShapeEntry b) other =
    ap (λ (names : List (List ℕ)). has_name names b.name) (map-append (λ (s : Shape). s.name) directory.shapes (a ∷ []))
    ∙ other_name (map (λ (s : Shape). s.name) directory.shapes) a.name b.name other
other_entry directory (ShapeEntry a) (RootEntry b) other = refl
other_entry directory (RootEntry a) (ShapeEntry b) other = refl
other_entry directory (RootEntry a) (RootEntry b) other = other_name directory.roots a b other

same_lacking : (directory : Directory) (entry : DirectoryEntry) (xs : List DirectoryEntry) → AllByRecursion (AreOthers entry) xs
    → lacking (with_entry directory entry) xs ≡ lacking directory xs
same_lacking directory entry [] others = refl
same_lacking directory entry (x ∷ xs) others =
    rw (other_entry directory entry x others.0, same_lacking directory entry xs others.1) refl

-- an entry that is there isn't lacking, whatever comes more
there_too : (directory : Directory) (more : List DirectoryEntry) (x : DirectoryEntry) (xs : List DirectoryEntry)
    → has_entry directory x ≡ true → lacking (with_all directory more) (x ∷ xs) ≡ lacking (with_all directory more) xs
there_too directory more x xs has =
    let still : has_entry (with_all directory more) x ≡ true =
    has_by (with_all directory more) x (all_there directory more x (there_by directory x has)) in
    rw still refl

lacking_behind : (directory : Directory) (entries : List DirectoryEntry) (k : ℕ) → AreApart entries
    → lacking (with_all directory (take k (lacking directory entries))) entries ≡ drop k (lacking directory entries)
lacking_behind directory entries zero apart = refl
lacking_behind directory [] (suc k) apart = refl
lacking_behind directory (e ∷ entries) (suc k) apart = ⊎_elim
    (λ (old : has_entry directory e ≡ true).
    let here : lacking directory (e ∷ entries) ≡ lacking directory entries = rw old refl in
    ap (λ (l : List DirectoryEntry). lacking (with_all directory (take (suc k) l)) (e ∷ entries)) here
    ∙ there_too directory (take (suc k) (lacking directory entries)) e entries old
    ∙ lacking_behind directory entries (suc k) apart.1
    ∙ ap (drop (suc k)) (sym here))
    (λ (new : has_entry directory e ≡ false).
    let more = with_entry directory e in
    let here : lacking directory (e ∷ entries) ≡ e ∷ lacking directory entries = rw new refl in
    let same : lacking more entries ≡ lacking directory entries = same_lacking directory e entries apart.0 in
    ap (λ (l : List DirectoryEntry). lacking (with_all directory (take (suc k) l)) (e ∷ entries)) here
    ∙ there_too more (take k (lacking directory entries)) e entries (has_by more e (own_there directory e))
    ∙ ap (λ (l : List DirectoryEntry). lacking (with_all more (take k l)) entries) (sym same)
    ∙ lacking_behind more entries k apart.1
    ∙ ap (drop k) same
    ∙ ap (drop (suc k)) (sym here))
    (bool_or (has_entry directory e))

-- so with all that it lacks it is the same
whole_same : (directory : Directory) (entries : List DirectoryEntry) (k : ℕ) → AreApart entries
    → with_all (with_all directory (take k (lacking directory entries))) (lacking (with_all directory (take k (lacking directory entries))) entries)
    ≡ with_all directory (lacking directory entries)
whole_same directory entries k apart =
    let all = lacking directory entries in
    let first = with_all directory (take k all) in
    ap (with_all first) (lacking_behind directory entries k apart)
    ∙ sym (with_both directory (take k all) (drop k all))
    ∙ ap (with_all directory) (take-append-drop k all)

-- ---- array types

shapes_all : (P : Shape → Type 0) (entries : List DirectoryEntry) → All (OfShape P) entries → All P (shapes_in entries)
unfolding shapes_in
shapes_all P [] all = All-nil P
shapes_all P (ShapeEntry shape ∷ entries) all =
    All-cons P shape (shapes_in entries) (All-head (OfShape P) (ShapeEntry shape) entries all)
    (shapes_all P entries (All-tail (OfShape P) (ShapeEntry shape) entries all))
shapes_all P (RootEntry root ∷ entries) all = shapes_all P entries (All-tail (OfShape P) (RootEntry root) entries all)

-- the set has a class of the name of each shape of its entries
entry_known : (set : SetFacts) (made : List (List ℕ)) (shape : Shape) → IsClassShape set shape ⊎ IsMadeShape set made shape
    → IsKnownIn set shape
entry_known set made shape (inl (c, there, plain, same)) =
    subst (IsKnownIn set) (sym same) (named_there (classes_of set) c
    (Contains-append_left (named_classes set) (map (array_class (length set.program)) set.arrays) c there))
entry_known set made shape (inr (a, there, is_made, known, same)) =
    subst (IsKnownIn set) (sym same) (named_there (classes_of set) (array_class (length set.program) a)
    (Contains-append_right (named_classes set) (map (array_class (length set.program)) set.arrays) (array_class (length set.program) a)
    (contains_map (array_class (length set.program)) set.arrays a there)))

module _ (set : Linked) (found : Directory) (entries : List DirectoryEntry)
    (its : AreEntriesOf (facts_of (with_arrays_of set found.shapes)) (made_of (with_arrays_of set found.shapes)) entries) (k : ℕ) where
  abbrev numbered : Linked
  numbered = with_arrays_of set found.shapes

  abbrev first : List DirectoryEntry
  first = take k (lacking found entries)

  all_known : All (IsKnownIn (facts_of numbered)) (shapes_in first)
  all_known =
      shapes_all (IsKnownIn (facts_of numbered)) first
      (All-take (OfShape (IsKnownIn (facts_of numbered))) k (lacking found entries)
      (lacking_all (OfShape (IsKnownIn (facts_of numbered))) found entries
      (subst (All (OfShape (IsKnownIn (facts_of numbered)))) (sym its.are)
      (entries_all (IsKnownIn (facts_of numbered)) its.shapes its.roots (λ n d below.
      let shape = slice_index_or its.shapes n d in
      entry_known (facts_of numbered) (made_of numbered) shape ((its.all_shapes shape).0 (Contains-get_or its.shapes n d below)))))))

  numbers_same : with_arrays_of set (with_all found first).shapes ≡ numbered
  numbers_same =
      ap (with_arrays_of set) (shapes_behind found first) ∙ arrays_both set found.shapes (shapes_in first)
      ∙ all_stay numbered (shapes_in first) all_known

  -- A directory that lacks room for the set though it has the first of what it lacked, lacked room.
  pub first_lacks : (which : Which) → LacksRoom set (with_all found first) which → LacksRoom set found which
  first_lacks which lacks =
      let theirs : AreEntriesOf (facts_of numbered) (made_of numbered) lacks.entries =
      subst (λ (s : Linked). AreEntriesOf (facts_of s) (made_of s) lacks.entries) numbers_same lacks.are_its in
      let same : lacks.entries ≡ entries = one_list (facts_of numbered) (made_of numbered) lacks.entries entries theirs its in
      let large : IsOverfull (with_all (with_all found first) (lacking (with_all found first) entries)) which =
      subst (λ es. IsOverfull (with_all (with_all found first) (lacking (with_all found first) es)) which) same lacks.too_large in
      record {
        entries = entries;
        are_its = its;
        too_large = subst (λ (d : Directory). IsOverfull d which)
            (whole_same found entries k (entries_apart (facts_of numbered) (made_of numbered) entries its)) large;
      }
