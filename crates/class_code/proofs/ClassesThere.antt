-- Classes that are found are there.
use Rattle.std.proofs.Common.{◌≡◌, ◌≢◌, ℕ, zero, suc, ◌+◌, ◌-◌, ◌<◌, ◌≤◌, List, [], ◌∷◌, ◌++◌, Option, Some, None, IsSome, map}
use Rattle.std.proofs.Common.{length, slice_index_or, refl, ap, sym, ◌∙◌, subst, arith}
use Rattle.std.specs.Prelude.{Ok}
use Rattle.std.proofs.lemmas.List.{length-append, length-map, get_or-append-add}
use Rattle.run_types.specs.declared.fault.LinkKind.TheVariants.{MissingClass}
use Rattle.plain_model.specs.BuiltIn.{array_class, built_in_classes}
use Rattle.plain_model.specs.Classes.{ArrayType, ClassFacts, no_class}
use Rattle.plain_model.specs.Facts.{class_at, classes_of, element_of, string_number}
use Rattle.plain_model.specs.Duties.{IsClass}
use Rattle.built_in_table.specs.Members.{built_in_names}
use Rattle.class_links.specs.Names.{name_of}
use Rattle.class_set.specs.Linked.{Linked, class_count, class_named, names_of}
use Rattle.class_set.specs.ArrayTypes.{array_type}
use Rattle.class_set.specs.Facts.{class_facts, facts_of}
use Rattle.class_code.specs.Entries.{class_called, found_or}
use Rattle.class_code.proofs.Found.{class_there}

names_counted : length built_in_names ≡ 28
unfolding built_in_names
names_counted = refl

built_ins_counted : (first : ℕ) → length (built_in_classes first) ≡ 28
built_ins_counted first = refl

pub classes_counted : (set : Linked) → length (classes_of (facts_of set)) ≡ length (names_of set)
classes_counted set =
    let files = set.files in
    let arrays = set.arrays in
    let program = map (class_facts files) files in
    let own = map (array_class (length program)) (map (array_type files) arrays) in
    let p : length program ≡ length files = length-map files (class_facts files) in
    let a : length own ≡ length arrays = length-map (map (array_type files) arrays) (array_class (length program)) ∙ length-map arrays (array_type files) in
    let left : length (classes_of (facts_of set)) ≡ length program + length (built_in_classes (length program)) + length own
    = length-append (program ++ built_in_classes (length program)) own ∙ ap (λ n. n + length own) (length-append program (built_in_classes (length program))) in
    let right : length (names_of set) ≡ length (map name_of files) + length built_in_names + length arrays
    = length-append (map name_of files ++ built_in_names) arrays ∙ ap (λ n. n + length arrays) (length-append (map name_of files) built_in_names) in
    let names : length (map name_of files) ≡ length files = length-map files name_of in
    omega (arith, left, right, p, a, names, names_counted, built_ins_counted (length program))

pub program_among : (set : Linked) → length (facts_of set).program ≤ length (classes_of (facts_of set))
program_among set =
    let program = map (class_facts set.files) set.files in
    let own = map (array_class (length program)) (map (array_type set.files) set.arrays) in
    let front = length-append program (built_in_classes (length program)) in
    let all : length (classes_of (facts_of set)) ≡ length (program ++ built_in_classes (length program)) + length own
    = length-append (program ++ built_in_classes (length program)) own in
    omega (arith, all, front)

pub built_in_there : (set : Linked) (k : ℕ) → k < 28 → length set.files + k < length (classes_of (facts_of set))
built_in_there set k l =
    let program = map (class_facts set.files) set.files in
    let own = map (array_class (length program)) (map (array_type set.files) set.arrays) in
    let p : length program ≡ length set.files = length-map set.files (class_facts set.files) in
    let front = length-append program (built_in_classes (length program)) in
    let all : length (classes_of (facts_of set)) ≡ length (program ++ built_in_classes (length program)) + length own
    = length-append (program ++ built_in_classes (length program)) own in
    omega (arith, l, p, front, all, built_ins_counted (length program))

pub named_there : (set : Linked) (name : List ℕ) (n : ℕ) → class_named set name ≡ Some n → IsClass (facts_of set) n
named_there set name n h = let below = class_there set name n h in omega (arith, below, classes_counted set)

pub called_named : (set : Linked) (name : List ℕ) (n : ℕ) → class_called set name ≡ Ok n → class_named set name ≡ Some n
called_named set name n h = one (class_named set name) h
  where
    one : (o : Option ℕ) → found_or MissingClass o ≡ Ok n → o ≡ Some n
    one None e = let no : ⊥ = cc in absurd no
    one (Some m) e = cc

pub called_there : (set : Linked) (name : List ℕ) (n : ℕ) → class_called set name ≡ Ok n → IsClass (facts_of set) n
called_there set name n h = named_there set name n (called_named set name n h)

-- ---- array types

element_there : (first : ℕ) (types : List ArrayType) (k : ℕ) → k < length (map (array_class first) types)
    → IsSome (slice_index_or (map (array_class first) types) k no_class).shape.element
element_there first [] k h = absurd (omega (arith, h))
element_there first (a ∷ types) zero h = refl
element_there first (a ∷ types) (suc k) h = element_there first types k (omega (arith, h))

pub array_there : (set : Linked) (n : ℕ) → class_count set ≤ n → IsClass (facts_of set) n
    → IsSome (element_of (facts_of set) n) × (n ≢ string_number (facts_of set))
array_there set n h there =
    let program = map (class_facts set.files) set.files in
    let first = length program in
    let own = map (array_class first) (map (array_type set.files) set.arrays) in
    let p : first ≡ length set.files = length-map set.files (class_facts set.files) in
    let front : length (program ++ built_in_classes first) ≡ first + 28 = length-append program (built_in_classes first) ∙ ap (λ m. first + m) (built_ins_counted first) in
    let all : length (classes_of (facts_of set)) ≡ length (program ++ built_in_classes first) + length own
    = length-append (program ++ built_in_classes first) own in
    let k = n - length (program ++ built_in_classes first) in
    let at : n ≡ length (program ++ built_in_classes first) + k = omega (arith, front, p) in
    let within : k < length own = omega (arith, at, all) in
    let same : class_at (facts_of set) n ≡ slice_index_or own k no_class
    = ap (λ m. slice_index_or ((program ++ built_in_classes first) ++ own) m no_class) at
    ∙ get_or-append-add (program ++ built_in_classes first) own k no_class in (
      subst (λ (c : ClassFacts). IsSome c.shape.element) (sym same) (element_there first (map (array_type set.files) set.arrays) k within),
      λ e. absurd (omega (arith, e, p)),
    )
