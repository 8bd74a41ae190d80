-- Of which classes there are instances.
use Rattle.std.proofs.Common.{inl, inr, true, false, ◌≡◌, ℕ, zero, suc, ◌+◌, ◌-◌, ◌<◌, ◌≤◌, List, [], ◌∷◌, ◌++◌, Some, None}
use Rattle.std.proofs.Common.{map, length, slice_index_or, refl, ap, sym, ◌∙◌, append_assoc, arith}
use Rattle.std.specs.Prelude.{◌⊎◌, slice_get}
use Rattle.std.proofs.lemmas.Bool.{cases_lt}
use Rattle.std.proofs.lemmas.Option.{slice_get_within}
use Rattle.std.proofs.lemmas.List.{length-map, length-append, map-append, get_or_append_left, get_or-append-add, get_or_past}
use Rattle.class_file.specs.declared.class.ClassFile.{ClassFile}
use Rattle.plain_model.specs.Classes.{is_made, no_class}
use Rattle.plain_model.specs.BuiltIn.{array_class, built_in_classes}
use Rattle.plain_model.specs.Facts.{class_at, classes_of}
use Rattle.built_in_table.specs.Members.{built_in_names}
use Rattle.class_links.specs.Names.{name_of}
use Rattle.class_set.specs.Linked.{Linked, names_of}
use Rattle.class_set.specs.ArrayTypes.{array_type}
use Rattle.class_set.specs.Facts.{class_facts, facts_of}
use Rattle.class_code.specs.Made.{made_places}

get_or-map : {X Y : Type 0} (f : X → Y) (d : X) (xs : List X) (n : ℕ) → slice_index_or (map f xs) n (f d) ≡ f (slice_index_or xs n d)
get_or-map f d [] n = refl
get_or-map f d (x ∷ xs) zero = refl
get_or-map f d (x ∷ xs) (suc n) = get_or-map f d xs n

-- an element within is there whatever stands for others
either : {X : Type 0} (xs : List X) (n : ℕ) (d e : X) → n < length xs → slice_index_or xs n d ≡ slice_index_or xs n e
either [] n d e h = absurd (omega (arith, h))
either (x ∷ xs) zero d e h = refl
either (x ∷ xs) (suc n) d e h = either xs n d e (omega (arith, h))

places : (first : ℕ) → map is_made (built_in_classes first) ≡ made_places
unfolding made_places
places first = refl

pub made_count : length made_places ≡ 28
unfolding made_places
made_count = refl

none_of : (first : ℕ) (files : List ClassFile) (arrays : List (List ℕ)) (n : ℕ)
    → slice_index_or (map is_made (map (array_class first) (map (array_type files) arrays))) n false ≡ false
none_of first files [] n = refl
none_of first files (a ∷ ds) zero = refl
none_of first files (a ∷ ds) (suc n) = none_of first files ds n

mapped : {X Y : Type 0} (f : X → Y) (xs : List X) (rest : List Y) (n : ℕ) (x : X) (d : Y) → slice_get xs n ≡ Some x
    → slice_index_or (map f xs ++ rest) n d ≡ f x
mapped f [] rest n x d h = absurd (omega (arith, slice_get_within [] n x h))
mapped f (y ∷ ys) rest zero x d h = let same : y ≡ x = cc in ap f same
mapped f (y ∷ ys) rest (suc n) x d h = mapped f ys rest n x d h

past : {X : Type 0} (xs : List X) (n : ℕ) → slice_get xs n ≡ None → length xs ≤ n
past [] n h = omega arith
past (x ∷ xs) zero h = let no : ⊥ = cc in absurd no
past (x ∷ xs) (suc n) h = let further = past xs n h in omega arith

pub made_of_file : (set : Linked) (n : ℕ) (c : ClassFile) → slice_get set.files n ≡ Some c
    → is_made (class_at (facts_of set) n) ≡ is_made (class_facts set.files c)
made_of_file set n c h =
    let first = length (map (class_facts set.files) set.files) in
    ap is_made (ap (λ cs. slice_index_or cs n no_class) (append_assoc (map (class_facts set.files) set.files) (built_in_classes first)
    (map (array_class first) (map (array_type set.files) set.arrays)))
    ∙ mapped (class_facts set.files) set.files (built_in_classes first ++ map (array_class first) (map (array_type set.files) set.arrays)) n c no_class h)

built_in_counted : length built_in_names ≡ 28
unfolding built_in_names
built_in_counted = refl

-- what stands behind the files' classes
behind : (first : ℕ) (files : List ClassFile) (arrays : List (List ℕ)) (place : ℕ) → place < 28 + length arrays
    → slice_index_or (made_places ++ map is_made (map (array_class first) (map (array_type files) arrays))) place true
    ≡ slice_index_or made_places place false
behind first files arrays place h = one (cases_lt place 28)
  where
    one : (place < 28) ⊎ (28 ≤ place) → slice_index_or (made_places ++ map is_made (map (array_class first) (map (array_type files) arrays))) place true
        ≡ slice_index_or made_places place false
    one (inl l) = let within : place < length made_places = omega (arith, made_count, l) in
        get_or_append_left made_places (map is_made (map (array_class first) (map (array_type files) arrays))) true place within
        ∙ either made_places place true false within
    one (inr l) = let types = map is_made (map (array_class first) (map (array_type files) arrays)) in
        let at : place ≡ length made_places + (place - 28) = omega (arith, made_count, l) in
        let counted : length types ≡ length arrays = length-map (map (array_class first) (map (array_type files) arrays)) is_made
        ∙ length-map (map (array_type files) arrays) (array_class first) ∙ length-map arrays (array_type files) in
        let within : place - 28 < length types = omega (arith, counted, h, l) in
        ap (λ k. slice_index_or (made_places ++ types) k true) at ∙ get_or-append-add made_places types (place - 28) true
        ∙ either types (place - 28) true false within ∙ none_of first files arrays (place - 28)
        ∙ sym (get_or_past made_places place false (omega (arith, made_count, l)))

pub made_behind : (set : Linked) (n : ℕ) → slice_get set.files n ≡ None → n < length (names_of set)
    → is_made (class_at (facts_of set) n) ≡ slice_index_or made_places (n - length set.files) false
made_behind set n h l =
    let program = map (class_facts set.files) set.files in
    let first = length program in
    let types = map (array_class first) (map (array_type set.files) set.arrays) in
    let low = past set.files n h in
    let same : length (map is_made program) ≡ length set.files = length-map program is_made ∙ length-map set.files (class_facts set.files) in
    let at : n ≡ length (map is_made program) + (n - length set.files) = omega (arith, same, low) in
    let counted : length (names_of set) ≡ length set.files + 28 + length set.arrays =
    length-append (map name_of set.files ++ built_in_names) set.arrays
    ∙ ap (λ k. k + length set.arrays) (length-append (map name_of set.files) built_in_names)
    ∙ ap (λ k. k + length built_in_names + length set.arrays) (length-map set.files name_of)
    ∙ ap (λ k. length set.files + k + length set.arrays) built_in_counted in
    let few : n - length set.files < 28 + length set.arrays = omega (arith, counted, l, low) in
    sym (get_or-map is_made no_class (classes_of (facts_of set)) n)
    ∙ ap (λ ms. slice_index_or ms n true) (map-append is_made (program ++ built_in_classes first) types
    ∙ ap (λ ms. ms ++ map is_made types) (map-append is_made program (built_in_classes first))
    ∙ ap (λ ms. (map is_made program ++ ms) ++ map is_made types) (places first)
    ∙ append_assoc (map is_made program) made_places (map is_made types))
    ∙ ap (λ k. slice_index_or (map is_made program ++ (made_places ++ map is_made types)) k true) at
    ∙ get_or-append-add (map is_made program) (made_places ++ map is_made types) (n - length set.files) true
    ∙ behind first set.files set.arrays (n - length set.files) few
