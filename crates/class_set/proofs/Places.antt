-- The places of names among those of classes and array types.
use Rattle.std.proofs.Common.{◌≡◌, ℕ, suc, ◌+◌, ◌<◌, ◌≤◌, true, false, ◌||◌, List, [], ◌∷◌, ◌++◌, Some, None, map, length, refl}
use Rattle.std.proofs.Common.{ap, sym, ◌∙◌, arith, subst, if◌then◌else◌}
use Rattle.std.specs.Prelude.{All}
use Rattle.std.specs.Str.{bytes_eq}
use Rattle.std.proofs.lemmas.Bool.{false≢true}
use Rattle.class_file.specs.declared.class.ClassFile.{ClassFile}
use Rattle.plain_model.specs.Facts.{array_named, array_place}
use Rattle.class_links.specs.Names.{has_name}
use Rattle.text_table.specs.Texts.{place_from, place_of}
use Rattle.class_set.specs.Linked.{Linked, class_names, names_of}
use Rattle.class_set.specs.ArrayTypes.{array_type, begins_with_bracket}
use Rattle.class_set.specs.Facts.{facts_of}
use Rattle.class_set.specs.Tables.{AreNames, IsSmall, linked_of}
use Rattle.class_set.proofs.Above.{class_names_counted}
use Rattle.class_set.proofs.Differ.{no_class_name, type_named}
use Rattle.class_set.proofs.Supertypes.{program_counted}

-- ---- among classes

-- a text that is among the first has its place there, and another that isn't none
left_place : (n : ℕ) (xs ys : List (List ℕ)) (t : List ℕ) (k : ℕ) → place_from n (xs ++ ys) t ≡ Some k → k < n + length xs
    → place_from n xs t ≡ Some k
left_place n [] ys t k h l = absurd (omega (arith, l, at_least n ys t k h))
  where
    at_least : (n : ℕ) (ys : List (List ℕ)) (t : List ℕ) (k : ℕ) → place_from n ys t ≡ Some k → n ≤ k
    at_least n [] t k h = absurd (cc)
    at_least n (y ∷ ys) t k h = elim (bytes_eq y t) as (λ b. (if b then Some n else place_from (n + 1) ys t) ≡ Some k → n ≤ k) [
      | true ↦ λ e. (let same : n ≡ k = cc in omega (arith, same))
      | false ↦ λ e. omega (arith, at_least (n + 1) ys t k e)
    ] h
left_place n (x ∷ xs) ys t k h l =
    elim (bytes_eq x t) as (λ b. (if b then Some n else place_from (n + 1) (xs ++ ys) t) ≡ Some k → (if b then Some n else place_from (n + 1) xs t) ≡ Some k) [
      | true ↦ λ e. e
      | false ↦ λ e. left_place (n + 1) xs ys t k e (omega (arith, l))
    ] h

left_none : (n : ℕ) (xs ys : List (List ℕ)) (t : List ℕ) → ((k : ℕ) → place_from n (xs ++ ys) t ≡ Some k → n + length xs ≤ k)
    → place_from n xs t ≡ None
left_none n [] ys t h = refl
left_none n (x ∷ xs) ys t h =
    elim (bytes_eq x t) as (λ b. ((k : ℕ) → (if b then Some n else place_from (n + 1) (xs ++ ys) t) ≡ Some k → n + length (x ∷ xs) ≤ k)
    → (if b then Some n else place_from (n + 1) xs t) ≡ None) [
      | true ↦ λ f. (let l : n + length (x ∷ xs) ≤ n = f n refl in absurd (omega (arith, l)))
      | false ↦ λ f. left_none (n + 1) xs ys t (λ k e. omega (arith, f k e))
    ] h

pub class_placed : (files : List ClassFile) (names : List (List ℕ)) (classes : ℕ) (t : List ℕ) (k : ℕ) → AreNames files names classes
    → place_of names t ≡ Some k → k < classes → place_of (class_names files) t ≡ Some k
class_placed files names classes t k are at l =
    left_place 0 (class_names files) (linked_of files names).arrays t k (ap (λ ns. place_of ns t) (sym are.listed) ∙ at)
    (omega (arith, l, are.count, class_names_counted files))

pub class_unplaced : (files : List ClassFile) (names : List (List ℕ)) (classes : ℕ) (t : List ℕ) → AreNames files names classes
    → ((k : ℕ) → place_of names t ≡ Some k → classes ≤ k) → place_of (class_names files) t ≡ None
class_unplaced files names classes t are none =
    left_none 0 (class_names files) (linked_of files names).arrays t (λ k e.
    omega (arith, none k (ap (λ ns. place_of ns t) are.listed ∙ e), are.count, class_names_counted files))

-- ---- among array types

pub right_place : (n : ℕ) (xs ys : List (List ℕ)) (t : List ℕ) → has_name xs t ≡ false → place_from n (xs ++ ys) t ≡ place_from (n + length xs) ys t
right_place n [] ys t h = ap (λ m. place_from m ys t) (plus_none n)
  where
    plus_none : (n : ℕ) → n ≡ n + 0
    plus_none n = omega arith
right_place n (x ∷ xs) ys t h =
    elim (bytes_eq x t) as (λ b. (b || has_name xs t) ≡ false → (if b then Some n else place_from (n + 1) (xs ++ ys) t) ≡ place_from (n + length (x ∷ xs)) ys t) [
      | true ↦ λ e. absurd (false≢true (sym e))
      | false ↦ λ e. right_place (n + 1) xs ys t e ∙ ap (λ m. place_from m ys t) (moved n (length xs))
    ] h
  where
    moved : (n k : ℕ) → n + 1 + k ≡ n + suc k
    moved n k = omega arith

array_found : (files : List ClassFile) (n : ℕ) (arrays : List (List ℕ)) (t : List ℕ) (k : ℕ) → place_from n arrays t ≡ Some k
    → k ≡ n + array_place (map (array_type files) arrays) t
array_found files n [] t k h = absurd (cc)
array_found files n (a ∷ more) t k h =
    subst (λ d. k ≡ n + (if bytes_eq d t then 0 else suc (array_place (map (array_type files) more) t))) (sym (type_named files a))
    (elim (bytes_eq a t) as (λ b. (if b then Some n else place_from (n + 1) more t) ≡ Some k
    → k ≡ n + (if b then 0 else suc (array_place (map (array_type files) more) t))) [
      | true ↦ λ e. (let same : n ≡ k = cc in omega (arith, same))
      | false ↦ λ e. omega (arith, array_found files (n + 1) more t k e)
    ] h)

array_missing : (files : List ClassFile) (n : ℕ) (arrays : List (List ℕ)) (t : List ℕ) → place_from n arrays t ≡ None
    → array_place (map (array_type files) arrays) t ≡ length arrays
array_missing files n [] t h = refl
array_missing files n (a ∷ more) t h =
    subst (λ d. (if bytes_eq d t then 0 else suc (array_place (map (array_type files) more) t)) ≡ length (a ∷ more)) (sym (type_named files a))
    (elim (bytes_eq a t) as (λ b. (if b then Some n else place_from (n + 1) more t) ≡ None
    → (if b then 0 else suc (array_place (map (array_type files) more) t)) ≡ length (a ∷ more)) [
      | true ↦ λ e. absurd (cc)
      | false ↦ λ e. ap suc (array_missing files (n + 1) more t e)
    ] h)

in_arrays : (set : Linked) (t : List ℕ) → All IsSmall set.files → begins_with_bracket t ≡ true
    → place_of (names_of set) t ≡ place_from (length set.files + 28) set.arrays t
in_arrays set t small h =
    right_place 0 (class_names set.files) set.arrays t (no_class_name set.files t small h)
    ∙ ap (λ m. place_from m set.arrays t) (from_zero (class_names_counted set.files))
  where
    from_zero : {a b : ℕ} → a ≡ b → 0 + a ≡ b
    from_zero e = omega (arith, e)

pub array_at_place : (set : Linked) (t : List ℕ) (k : ℕ) → All IsSmall set.files → begins_with_bracket t ≡ true
    → place_of (names_of set) t ≡ Some k → k ≡ array_named (facts_of set) t
array_at_place set t k small h e =
    let found : k ≡ length set.files + 28 + array_place (map (array_type set.files) set.arrays) t =
    array_found set.files (length set.files + 28) set.arrays t k (sym (in_arrays set t small h) ∙ e) in
    omega (arith, found, program_counted set.files set.files)

pub array_at_end : (set : Linked) (t : List ℕ) → All IsSmall set.files → begins_with_bracket t ≡ true
    → place_of (names_of set) t ≡ None → length set.files + 28 + length set.arrays ≡ array_named (facts_of set) t
array_at_end set t small h e =
    let none : array_place (map (array_type set.files) set.arrays) t ≡ length set.arrays =
    array_missing set.files (length set.files + 28) set.arrays t (sym (in_arrays set t small h) ∙ e) in
    omega (arith, none, program_counted set.files set.files)
