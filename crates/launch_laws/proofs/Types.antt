-- Array types of a set by their descriptors, and whether their innermost classes are there.
use Rattle.std.proofs.Common.{◌≡◌, ◌≢◌, ◌<◌, ◌≤◌, ◌+◌, ◌-◌, ℕ, zero, suc, Bool, true, false, ◌&&◌, replicate, List, [], ◌∷◌}
use Rattle.std.proofs.Common.{◌++◌, Some, None, length, map, take, slice_index_or, refl, ap, sym, ◌∙◌, subst, arith, inl, inr}
use Rattle.std.proofs.Common.{◌⊎◌, if◌then◌else◌}
use Rattle.std.specs.Prelude.{All, Contains, slice_get, not, ◌↔◌}
use Rattle.std.specs.Option.{option_map}
use Rattle.std.specs.Str.{bytes_eq}
use Rattle.std.proofs.lemmas.Bool.{false≢true, le-ltb, cases_lt}
use Rattle.std.proofs.lemmas.List.{append_cancel_right, get_or-append_right, get_or-take, length-append, length-map}
use Rattle.std.proofs.lemmas.List.{length-take}
use Rattle.std.proofs.lemmas.Option.{get_or_from_slice_get, slice_get-map, slice_get_within}
use Rattle.std.proofs.lemmas.Slice.Eq.{bytes_eq-Decides}
use Rattle.graph_walks.proofs.Lists.{Contains-cons_cases, Contains-head, Contains-nil, Contains-tail}
use Rattle.ap_base.specs.declared.kind.Kind.{Kind}
use Rattle.ap_base.specs.declared.kind.Kind.TheVariants as kinds
use Rattle.class_file.specs.declared.class.ClassFile.{ClassFile}
use Rattle.plain_model.specs.Classes.{ArrayType, ClassFacts, Innermost, Numbers, Objects, Missing, no_class}
use Rattle.plain_model.specs.Consistent.{IsArrayType, IsInnermost, class_descriptor, innermost_descriptor, kind_letter}
use Rattle.plain_model.specs.Facts.{SetFacts, array_at, array_named, array_place, class_at, class_count, classes_of}
use Rattle.plain_model.specs.Facts.{innermost_of}
use Rattle.text_table.specs.Texts.{place_from}
use Rattle.class_set.specs.Linked.{Linked, class_named, class_names, names_of}
use Rattle.class_set.specs.Linked.{class_count as linked_count}
use Rattle.class_set.specs.ArrayTypes.{array_type, begins_with_bracket, is_array_type, makes}
use Rattle.class_set.specs.Facts.{facts_of}
use Rattle.class_set.specs.Sets.{is_there, made_of}
use Rattle.class_set.specs.Tables.{IsSmall}
use Rattle.class_set.proofs.Above.{class_names_counted, get_or-map_all}
use Rattle.class_set.proofs.Described.{described_type}
use Rattle.class_set.proofs.Differ.{bracketed, names_listed, type_named}
use Rattle.class_set.proofs.ElementTypes.{array_behind}
use Rattle.class_set.proofs.Indices.{place_below}
use Rattle.class_set.proofs.Places.{array_at_place}
use Rattle.class_set.proofs.Supertypes.{program_counted}
use Rattle.set_directory.specs.Written.{is_written}

-- ---- a text by its place

named_place : (n : ℕ) (texts : List (List ℕ)) (t : List ℕ) (k j : ℕ) (d : List ℕ)
    → place_from n texts t ≡ Some k → k ≡ n + j → slice_index_or texts j d ≡ t
named_place n [] t k j d h e = absurd cc
named_place n (u ∷ us) t k j d h e =
    elim (bytes_eq u t) as (λ b. bytes_eq u t ≡ b → (if b then Some n else place_from (n + 1) us t) ≡ Some k
    → slice_index_or (u ∷ us) j d ≡ t) [
      | true ↦ λ s f. (let same : n ≡ k = cc in let first : j ≡ 0 = omega (arith, same, e) in
          ap (λ i. slice_index_or (u ∷ us) i d) first ∙ (bytes_eq-Decides u t).0 s)
      | false ↦ λ s f. behind j (λ i g. named_place (n + 1) us t k i d f g) f e
    ] refl h
  where
    starts : (n : ℕ) (us : List (List ℕ)) (t : List ℕ) (k : ℕ) → place_from n us t ≡ Some k → n ≤ k
    starts n [] t k h = absurd cc
    starts n (u ∷ us) t k h = elim (bytes_eq u t) as
        (λ b. (if b then Some n else place_from (n + 1) us t) ≡ Some k → n ≤ k) [
          | true ↦ λ f. (let same : n ≡ k = cc in omega (arith, same))
          | false ↦ λ f. omega (arith, starts (n + 1) us t k f)
        ] h

    behind : (j : ℕ) → ((i : ℕ) → k ≡ n + 1 + i → slice_index_or us i d ≡ t)
        → place_from (n + 1) us t ≡ Some k → k ≡ n + j → slice_index_or (u ∷ us) j d ≡ t
    behind zero next f e = absurd (omega (arith, e, starts (n + 1) us t k f))
    behind (suc i) next f e = next i (omega (arith, e))

-- ---- classes and array types by number

abbrev called : ClassFacts → List ℕ
called c = c.shape.name

classes_counted : (set : Linked) → length (classes_of (facts_of set)) ≡ length (names_of set)
classes_counted set = sym (length-map (classes_of (facts_of set)) called) ∙ ap length (names_listed set)

name_here : (set : Linked) (n : ℕ)
    → (class_at (facts_of set) n).shape.name ≡ slice_index_or (names_of set) n []
name_here set n =
    sym (get_or-map_all called no_class (classes_of (facts_of set)) n)
    ∙ ap (λ (names : List (List ℕ)). slice_index_or names n []) (names_listed set)

-- ---- an array type by its descriptor

text_placed : (files : List ClassFile) (texts : List (List ℕ)) (t : List ℕ) → Contains texts t
    → slice_get texts (array_place (map (array_type files) texts) t) ≡ Some t
text_placed files [] t c = absurd (Contains-nil t c)
text_placed files (u ∷ us) t c =
    subst (λ d. slice_get (u ∷ us)
    (if bytes_eq d t then 0 else suc (array_place (map (array_type files) us) t)) ≡ Some t)
    (sym (type_named files u))
    (elim (bytes_eq u t) as (λ b. bytes_eq u t ≡ b
    → slice_get (u ∷ us) (if b then 0 else suc (array_place (map (array_type files) us) t)) ≡ Some t) [
      | true ↦ λ s. ap Some ((bytes_eq-Decides u t).0 s)
      | false ↦ λ s. text_placed files us t (other s (Contains-cons_cases u us t c))
    ] refl)
  where
    other : bytes_eq u t ≡ false → (u ≡ t) ⊎ Contains us t → Contains us t
    other s (inl same) = absurd (false≢true (sym s ∙ (bytes_eq-Decides u t).1 same))
    other s (inr d) = d

-- the code of a set makes a type by its name
abbrev pub MakesByName : Type 0
MakesByName = (set : Linked) (n : ℕ) → n < length (classes_of (facts_of set))
    → (makes set n ≡ true) ↔ Contains (made_of set) (class_at (facts_of set) n).shape.name

module _ (set : Linked) (t : List ℕ) (has : Contains set.arrays t) where
  abbrev number : ℕ
  number = array_named (facts_of set) t

  abbrev place : ℕ
  place = array_place (facts_of set).arrays t

  here : slice_get set.arrays place ≡ Some t
  here = text_placed set.files set.arrays t has

  number-is : number ≡ length set.files + 28 + place
  number-is = omega (arith, program_counted set.files set.files)

  place-is : number - (length set.files + 28) ≡ place
  place-is = omega (arith, number-is)

  type-here : array_at (facts_of set) number ≡ Some (array_type set.files t)
  type-here =
      array_behind set number (omega (arith, number-is))
      ∙ ap (slice_get (map (array_type set.files) set.arrays)) place-is
      ∙ slice_get-map (array_type set.files) set.arrays place
      ∙ ap (option_map (array_type set.files)) here

  pub innermost-here : innermost_of (facts_of set) number ≡ (array_type set.files t).innermost
  innermost-here =
      ap (λ o. elim o as (λ x. Innermost) [ None ↦ Objects number | Some a ↦ a.innermost ]) type-here

  below-all : number < length (classes_of (facts_of set))
  below-all =
      let within : place < length set.arrays = slice_get_within set.arrays place t here in
      omega (
        arith,
        within,
        number-is,
        classes_counted set,
        length-append (class_names set.files) set.arrays,
        class_names_counted set.files,
      )

  name-is : (class_at (facts_of set) number).shape.name ≡ t
  name-is =
      name_here set number
      ∙ get_or-append_right (class_names set.files) set.arrays (length set.files + 28) number []
      (class_names_counted set.files)
      (omega (arith, number-is))
      ∙ ap (λ k. slice_index_or set.arrays k []) place-is
      ∙ get_or_from_slice_get set.arrays place t [] here

  both : (a b : Bool) → a ≡ true → b ≡ true → (a && b) ≡ true
  both true b h k = k
  both false b h k = absurd (false≢true h)

  -- it has a shape in a directory where the code makes it and the class of its innermost elements is there
  pub written : MakesByName → Contains (made_of set) t → is_there (array_type set.files t).innermost ≡ true
      → is_written set number ≡ true
  written by_name made there =
      ap (λ b. if b then not (class_at (facts_of set) number).is_interface
      else makes set number && is_there (innermost_of (facts_of set) number))
      (le-ltb number (linked_count set) (omega (arith, number-is)))
      ∙ both (makes set number) (is_there (innermost_of (facts_of set) number))
      ((by_name set number below-all).1 (subst (Contains (made_of set)) (sym name-is) made))
      (ap is_there innermost-here ∙ there)

-- ---- an array type that a name finds

-- the types of a set have its descriptors
pub type-listed : (files : List ClassFile) (texts : List (List ℕ)) (a : ArrayType)
    → Contains (map (array_type files) texts) a → Contains texts a.descriptor
type-listed files [] a c = absurd (Contains-nil a c)
type-listed files (u ∷ us) a c = elim (Contains-cons_cases (array_type files u)
    (map (array_type files) us) a c) [
      | inl same ↦ subst (Contains (u ∷ us))
          (sym (type_named files u) ∙ ap (λ (b : ArrayType). b.descriptor) same) (Contains-head u us)
      | inr later ↦ Contains-tail u us a.descriptor (type-listed files us a later)
    ]

pub record IsListed (set : Linked) (t : List ℕ) (n : ℕ) : Type 0 where
  pub number : n ≡ array_named (facts_of set) t
  pub listed : Contains set.arrays t

pub found-listed : (set : Linked) (t : List ℕ) (n : ℕ) → All IsSmall set.files → begins_with_bracket t ≡ true
    → class_named set t ≡ Some n → IsListed set t n
found-listed set t n small bracket e =
    let number : n ≡ array_named (facts_of set) t = array_at_place set t n small bracket e in
    let count = class_names_counted set.files in
    let past : length set.files + 28 ≤ n = omega (arith, number, program_counted set.files set.files) in
    let below : n < length (names_of set) = omega (arith, place_below 0 (names_of set) t n e) in
    let k = n - (length set.files + 28) in
    let same : slice_index_or set.arrays k t ≡ t =
    sym (get_or-append_right (class_names set.files) set.arrays (length set.files + 28) n t count past)
    ∙ named_place 0 (names_of set) t n n t e (omega arith) in
    record {
      number = number;
      listed = (k, omega (arith, below, past, count, length-append (class_names set.files) set.arrays), same);
    }

-- a name without a bracket is a class's
pub class-found : (set : Linked) (t : List ℕ) (n : ℕ) → All (λ u. is_array_type u ≡ true) set.arrays
    → begins_with_bracket t ≡ false → class_named set t ≡ Some n
    → (n < class_count (facts_of set)) × ((class_at (facts_of set) n).shape.name ≡ t)
class-found set t n arrays plain e = (
  elim (cases_lt n (class_count (facts_of set))) [
    | inl below ↦ below
    | inr past ↦
        let count = class_names_counted set.files in
        let behind : length set.files + 28 ≤ n = omega (arith, past, program_counted set.files set.files) in
        let below : n < length (names_of set) = omega (arith, place_below 0 (names_of set) t n e) in
        let k = n - (length set.files + 28) in
        let same : slice_index_or set.arrays k t ≡ t =
        sym (get_or-append_right (class_names set.files) set.arrays (length set.files + 28) n t count behind)
        ∙ named_place 0 (names_of set) t n n t e (omega arith) in
        let array : is_array_type (slice_index_or set.arrays k t) ≡ true =
        arrays k t (omega (arith, below, behind, count, length-append (class_names set.files) set.arrays)) in
        absurd (false≢true (sym plain ∙ bracketed t (subst (λ u. is_array_type u ≡ true) same array)))
  ],
  name_here set n ∙ named_place 0 (names_of set) t n n [] e (omega arith),
)

-- ---- descriptors

bracket-head : (a b : List ℕ) → a ≡ 91 ∷ b → begins_with_bracket a ≡ true
bracket-head a b e = ap begins_with_bracket e

pub past-brackets : (m n : ℕ) (a b : List ℕ) → begins_with_bracket a ≡ false → begins_with_bracket b ≡ false
    → replicate m 91 ++ a ≡ replicate n 91 ++ b → a ≡ b
past-brackets zero zero a b h k e = e
past-brackets zero (suc n) a b h k e = absurd (false≢true (sym h ∙ bracket-head a (replicate n 91 ++ b) e))
past-brackets (suc m) zero a b h k e =
    absurd (false≢true (sym k ∙ bracket-head b (replicate m 91 ++ a) (sym e)))
past-brackets (suc m) (suc n) a b h k e = past-brackets m n a b h k cc

letter-plain : (k : Kind) → begins_with_bracket (kind_letter k ∷ []) ≡ false
letter-plain kinds.Z = refl
letter-plain kinds.B = refl
letter-plain kinds.C = refl
letter-plain kinds.S = refl
letter-plain kinds.I = refl
letter-plain kinds.J = refl
letter-plain kinds.L = refl
letter-plain kinds.Text = refl

descriptor-plain : (set : SetFacts) (i : Innermost) → begins_with_bracket (innermost_descriptor set i) ≡ false
descriptor-plain set (Numbers k) = letter-plain k
descriptor-plain set (Objects n) = refl
descriptor-plain set (Missing name) = refl

same-class : (a b : List ℕ) → class_descriptor a ≡ class_descriptor b → a ≡ b
same-class a b e =
    let both : 76 ∷ a ≡ 76 ∷ b = append_cancel_right (76 ∷ a) (76 ∷ b) (59 ∷ []) e in cc

length-replicated : (n x : ℕ) → length (replicate n x) ≡ n
length-replicated zero x = refl
length-replicated (suc n) x = ap suc (length-replicated n x)

unless-missing : (i : Innermost) → ((name : List ℕ) → i ≡ Missing name → ⊥) → is_there i ≡ true
unless-missing (Numbers k) not_so = refl
unless-missing (Objects n) not_so = refl
unless-missing (Missing name) not_so = absurd (not_so name refl)

module _ (set : Linked) (t : List ℕ) (is : is_array_type t ≡ true) where
  abbrev inner : Innermost
  inner = (array_type set.files t).innermost

  typed : IsArrayType (facts_of set) (array_type set.files t)
  typed = described_type set t is

  spelled : t ≡ replicate (array_type set.files t).dimensions 91 ++ innermost_descriptor (facts_of set) inner
  spelled = sym (type_named set.files t) ∙ typed.descriptor

  -- one of two bytes is of numbers
  pub short-there : length t ≡ 2 → is_there inner ≡ true
  short-there two = unless-missing inner (λ name e.
      let d = (array_type set.files t).dimensions in
      let whole : t ≡ replicate d 91 ++ class_descriptor name =
      spelled ∙ ap (λ i. replicate d 91 ++ innermost_descriptor (facts_of set) i) e in
      omega (
        arith,
        two,
        typed.dimensions,
        ap length whole,
        length-append (replicate d 91) (class_descriptor name),
        length-replicated d 91,
        length-append (76 ∷ name) (59 ∷ []),
      ))

  -- no class of the set has the name of a missing one
  not-missing : (name : List ℕ) → inner ≡ Missing name → (n : ℕ) → n < class_count (facts_of set)
      → (class_at (facts_of set) n).shape.name ≡ name → ⊥
  not-missing name e n below same =
      let classes = classes_of (facts_of set) in
      let none = subst (IsInnermost (facts_of set)) e typed.innermost in
      let all : class_count (facts_of set) ≤ length classes =
      omega (
        arith,
        classes_counted set,
        length-append (class_names set.files) set.arrays,
        class_names_counted set.files,
        program_counted set.files set.files,
      ) in
      let within : n < length (take (class_count (facts_of set)) classes) =
      omega (arith, below, all, length-take (class_count (facts_of set)) classes) in
      subst (λ (c : ClassFacts). c.shape.name ≢ name)
      (get_or-take (class_count (facts_of set)) classes n no_class below) (none n no_class within) same

-- the innermost class of arrays of arrays is that of their elements
pub nested-there : (set : Linked) (t : List ℕ) → is_array_type t ≡ true
    → is_there (array_type set.files t).innermost ≡ true → is_array_type (91 ∷ t) ≡ true
    → is_there (array_type set.files (91 ∷ t)).innermost ≡ true
nested-there set t is there is_too = unless-missing (inner set (91 ∷ t) is_too) (λ name e.
    let own = array_type set.files t in
    let nested = array_type set.files (91 ∷ t) in
    let same : innermost_descriptor (facts_of set) own.innermost ≡ class_descriptor name =
    past-brackets (suc own.dimensions) nested.dimensions (innermost_descriptor (facts_of set) own.innermost)
    (class_descriptor name) (descriptor-plain (facts_of set) own.innermost) refl
    (ap (λ u. 91 ∷ u) (sym (spelled set t is)) ∙ spelled set (91 ∷ t) is_too
    ∙ ap (λ i. replicate nested.dimensions 91 ++ innermost_descriptor (facts_of set) i) e) in
    none name e own.innermost refl there same)
  where
    none : (name : List ℕ) → inner set (91 ∷ t) is_too ≡ Missing name → (i : Innermost)
        → (array_type set.files t).innermost ≡ i → is_there i ≡ true
        → innermost_descriptor (facts_of set) i ≡ class_descriptor name → ⊥
    none name e (Numbers k) h there same =
        omega (arith, ap length same, length-append (76 ∷ name) (59 ∷ []))
    none name e (Objects n) h there same =
        not-missing set (91 ∷ t) is_too name e n
        (subst (IsInnermost (facts_of set)) h (typed set t is).innermost)
        (same-class (class_at (facts_of set) n).shape.name name same)
    none name e (Missing other) h there same = false≢true there

pub class-there : (set : Linked) (name : List ℕ) (n : ℕ) → n < class_count (facts_of set)
    → (class_at (facts_of set) n).shape.name ≡ name → is_array_type (91 ∷ class_descriptor name) ≡ true
    → is_there (array_type set.files (91 ∷ class_descriptor name)).innermost ≡ true
class-there set name n below called is =
    let t = 91 ∷ class_descriptor name in
    unless-missing (inner set t is) (λ other e.
    let d = (array_type set.files t).dimensions in
    let same : class_descriptor name ≡ class_descriptor other =
    past-brackets (suc zero) d (class_descriptor name) (class_descriptor other) refl refl
    (spelled set t is ∙ ap (λ i. replicate d 91 ++ innermost_descriptor (facts_of set) i) e) in
    not-missing set t is other e n below (called ∙ same-class name other same))
