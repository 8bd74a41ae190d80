-- The names of linked classes and array types differ.
use Rattle.std.proofs.Common.{◌≡◌, ◌≢◌, ℕ, zero, suc, ◌<◌, Bool, true, false, List, [], ◌∷◌, ◌++◌, Option, Some, None, map}
use Rattle.std.proofs.Common.{length, slice_index_or, refl, ap, sym, ◌∙◌, arith, subst, ◌||◌, nat_lt, if◌then◌else◌, inl, inr}
use Rattle.std.specs.Prelude.{All, AllPairs, is_some, filter, not, ◌&&◌}
use Rattle.std.specs.Str.{bytes_eq}
use Rattle.std.proofs.lemmas.List.Elements.{All-head, All-tail, All-nil, filter_passes}
use Rattle.std.proofs.lemmas.Slice.Eq.{bytes_eq-Decides}
use Rattle.std.specs.Option.{is_none}
use Rattle.std.specs.Cmp.Lexicographic.{nat_list_eq_equiv}
use Rattle.std.proofs.lemmas.Bool.{false≢true, or_left, or_cases}
use Rattle.std.proofs.lemmas.List.{length-map, map-append}
use Rattle.const_pool.specs.declared.descriptor.FieldType.{FieldType}
use Rattle.const_pool.specs.declared.descriptor.Descriptor.{Descriptor}
use Rattle.const_pool.specs.declared.descriptor.Descriptor.TheVariants as descriptor
use Rattle.const_pool.specs.Parsing.{descriptor_at}
use Rattle.const_pool.specs.Utf8.{bad_place}
use Rattle.class_file.specs.declared.class.ClassFile.{ClassFile}
use Rattle.plain_model.specs.Classes.{ClassFacts, ArrayType}
use Rattle.plain_model.specs.BuiltIn.{built_in_classes, array_class}
use Rattle.plain_model.specs.Facts.{classes_of}
use Rattle.built_in_table.specs.Members.{built_in_names}
use Rattle.class_links.specs.Names.{name_of, has_name}
use Rattle.class_links.specs.Links.{doubled}
use Rattle.class_set.specs.Linked.{Linked, class_names, names_of}
use Rattle.class_set.specs.declared.arrays.Listed.{Listed}
use Rattle.class_set.specs.declared.arrays.Listed.TheVariants.{Needed}
use Rattle.class_set.specs.ArrayTypes.{all_listed, array_type, begins_with_bracket, described_array, is_array_type, linked_from}
use Rattle.class_set.specs.ArrayTypes.{listed_arrays, no_array, typed_array}
use Rattle.class_set.specs.Facts.{class_facts, facts_of}
use Rattle.class_set.specs.Tables.{IsSmall}
use Rattle.class_set.proofs.Above.{get_or-map_all}
use Rattle.class_set.proofs.Needed.{no_bracket}
use Rattle.class_set.proofs.Numbers.{AreNew, has_name-append, names-new, new-append, place-has}
use Rattle.class_set.proofs.Ordered.{All-inserted, ordered_new, sorted_ordered}

-- ---- new texts differ

new_not : (before texts : List (List ℕ)) (t : List ℕ) → AreNew before texts → has_name before t ≡ true → (j : ℕ) (d : List ℕ) → j < length texts
    → t ≡ slice_index_or texts j d → ⊥
new_not before [] t h k j d l e = omega (arith, l)
new_not before (u ∷ us) t h k zero d l e =
    false≢true (ap (λ o. is_some o) (sym h.0) ∙ place-has 0 before u ∙ ap (has_name before) (sym e) ∙ k)
new_not before (u ∷ us) t h k (suc j) d l e =
    new_not (before ++ u ∷ []) us t h.1
    (has_name-append before (u ∷ []) t ∙ or_left (has_name before t) (has_name (u ∷ []) t) k) j d (omega (arith, l)) e

has_last : (before : List (List ℕ)) (t : List ℕ) → has_name (before ++ t ∷ []) t ≡ true
has_last before t = has_name-append before (t ∷ []) t ∙ rw (nat_list_eq_equiv.refl t) (or_true (has_name before t))
  where
    or_true : (b : Bool) → (b || true) ≡ true
    or_true true = refl
    or_true false = refl

pub new_pairs : (before texts : List (List ℕ)) → AreNew before texts → (i j : ℕ) (d : List ℕ) → i < j → j < length texts
    → slice_index_or texts i d ≢ slice_index_or texts j d
new_pairs before [] h i j d l m = absurd (omega (arith, m))
new_pairs before (t ∷ ts) h i zero d l m = absurd (omega (arith, l))
new_pairs before (t ∷ ts) h zero (suc j) d l m = new_not (before ++ t ∷ []) ts t h.1 (has_last before t) j d (omega (arith, m))
new_pairs before (t ∷ ts) h (suc i) (suc j) d l m = new_pairs (before ++ t ∷ []) ts h.1 i j d (omega (arith, l)) (omega (arith, m))

-- ---- the names of classes are those by number

abbrev pub name : ClassFacts → List ℕ
name c = c.shape.name

pub program_names : (all files : List ClassFile) → map name (map (class_facts all) files) ≡ map name_of files
program_names all [] = refl
program_names all (c ∷ cs) = ap (λ ns. name_of c ∷ ns) (program_names all cs)

pub built_ins_named : (first : ℕ) → map name (built_in_classes first) ≡ built_in_names
unfolding built_in_names
built_ins_named first = refl

abbrev pub or_no_array : List ℕ → Option ArrayType → ArrayType
or_no_array text None = no_array text
or_no_array text (Some a) = a

of_test : (files : List ClassFile) (text : List ℕ) (t : FieldType) (b : Bool)
    → (or_no_array text (if b then Some (typed_array files text t) else None)).descriptor ≡ text
of_test files text t true = refl
of_test files text t false = refl

described_by : (files : List ClassFile) (text : List ℕ) (o : Option Descriptor)
    → (or_no_array text (described_array files text o)).descriptor ≡ text
described_by files text None = refl
described_by files text (Some (descriptor.Method parameters result)) = refl
described_by files text (Some (descriptor.Field t)) = of_test files text t (nat_lt 0 t.dimensions)

of_text : (files : List ClassFile) (text : List ℕ) (b : Bool)
    → (or_no_array text (if b then described_array files text (descriptor_at text) else None)).descriptor ≡ text
of_text files text true = described_by files text (descriptor_at text)
of_text files text false = refl

pub type_named : (files : List ClassFile) (text : List ℕ) → (array_type files text).descriptor ≡ text
type_named files text = of_text files text (is_none (bad_place 0 0 text))

array_names : (first : ℕ) (files : List ClassFile) (arrays : List (List ℕ)) → map name (map (array_class first) (map (array_type files) arrays)) ≡ arrays
array_names first files [] = refl
array_names first files (t ∷ ts) = ap (λ n. n ∷ map name (map (array_class first) (map (array_type files) ts))) (type_named files t) ∙ ap (λ ns. t ∷ ns) (array_names first files ts)

pub names_listed : (set : Linked) → map name (classes_of (facts_of set)) ≡ names_of set
names_listed set =
    let program = map (class_facts set.files) set.files in
    let first = length program in
    let arrays = map (array_class first) (map (array_type set.files) set.arrays) in
    map-append name (program ++ built_in_classes first) arrays
    ∙ ap (λ ns. ns ++ map name arrays) (map-append name program (built_in_classes first))
    ∙ ap (λ ns. ns ++ map name (built_in_classes first) ++ map name arrays) (program_names set.files set.files)
    ∙ ap (λ ns. map name_of set.files ++ ns ++ map name arrays) (built_ins_named first)
    ∙ ap (λ ns. class_names set.files ++ ns) (array_names first set.files set.arrays)

-- ---- names of classes are no descriptors of array types

plain_file : (files : List ClassFile) (t : List ℕ) → All IsSmall files → has_name (map name_of files) t ≡ true → begins_with_bracket t ≡ false
plain_file [] t small e = absurd (false≢true e)
plain_file (c ∷ cs) t small e =
    elim (bytes_eq (name_of c) t) as (λ b. bytes_eq (name_of c) t ≡ b → (b || has_name (map name_of cs) t) ≡ true → begins_with_bracket t ≡ false) [
      | true ↦ λ s k. subst (λ u. begins_with_bracket u ≡ false) ((bytes_eq-Decides (name_of c) t).0 s) (All-head IsSmall c cs small).named
      | false ↦ λ s k. plain_file cs t (All-tail IsSmall c cs small) k
    ] refl e

all_plain : List (List ℕ) → Bool
all_plain [] = true
all_plain (t ∷ ts) = not (begins_with_bracket t) && all_plain ts

both_true : (a b : Bool) → (a && b) ≡ true → (a ≡ true) × (b ≡ true)
both_true true b h = (refl, h)
both_true false b h = absurd (false≢true h)

not_true : (b : Bool) → not b ≡ true → b ≡ false
not_true true h = absurd (false≢true h)
not_true false h = refl

plain_text : (texts : List (List ℕ)) (t : List ℕ) → all_plain texts ≡ true → has_name texts t ≡ true → begins_with_bracket t ≡ false
unfolding all_plain
plain_text [] t h e = absurd (false≢true e)
plain_text (u ∷ us) t h e =
    let both = both_true (not (begins_with_bracket u)) (all_plain us) h in
    elim (bytes_eq u t) as (λ b. bytes_eq u t ≡ b → (b || has_name us t) ≡ true → begins_with_bracket t ≡ false) [
      | true ↦ λ s k. subst (λ v. begins_with_bracket v ≡ false) ((bytes_eq-Decides u t).0 s) (not_true (begins_with_bracket u) both.0)
      | false ↦ λ s k. plain_text us t both.1 k
    ] refl e

built_ins_plain : all_plain built_in_names ≡ true
unfolding all_plain built_in_names
built_ins_plain = refl

pub class_plain : (files : List ClassFile) (t : List ℕ) → All IsSmall files → has_name (class_names files) t ≡ true → begins_with_bracket t ≡ false
class_plain files t small e = elim (or_cases (has_name (map name_of files) t) (has_name built_in_names t) (sym (has_name-append (map name_of files) built_in_names t) ∙ e)) [
  | inl h ↦ plain_file files t small h
  | inr h ↦ plain_text built_in_names t built_ins_plain h
]

-- no class has the name of an array type
pub no_class_name : (files : List ClassFile) (t : List ℕ) → All IsSmall files → begins_with_bracket t ≡ true → has_name (class_names files) t ≡ false
no_class_name files t small h =
    elim (has_name (class_names files) t) as (λ b. has_name (class_names files) t ≡ b → b ≡ false) [
      | true ↦ λ e. absurd (false≢true (sym (class_plain files t small e) ∙ h))
      | false ↦ λ e. refl
    ] refl

pub bracketed : (t : List ℕ) → is_array_type t ≡ true → begins_with_bracket t ≡ true
bracketed t h = elim (begins_with_bracket t) as (λ b. begins_with_bracket t ≡ b → b ≡ true) [
  | true ↦ λ e. refl
  | false ↦ λ e. absurd (false≢true (sym (no_bracket t e) ∙ h))
] refl

-- ---- array types

pub listed_are_arrays : (what : Listed) (files : List ClassFile) → All (λ t. is_array_type t ≡ true) (listed_arrays what files)
listed_are_arrays what files =
    All-inserted (λ t. is_array_type t ≡ true) [] (filter is_array_type (all_listed what files))
    (All-nil (λ t. is_array_type t ≡ true)) (filter_passes is_array_type (all_listed what files))

named_of_all : (P : List ℕ → Type 0) (texts : List (List ℕ)) (t : List ℕ) → All P texts → has_name texts t ≡ true → P t
named_of_all P [] t h e = absurd (false≢true e)
named_of_all P (u ∷ us) t h e =
    elim (bytes_eq u t) as (λ b. bytes_eq u t ≡ b → (b || has_name us t) ≡ true → P t) [
      | true ↦ λ s k. subst P ((bytes_eq-Decides u t).0 s) (All-head P u us h)
      | false ↦ λ s k. named_of_all P us t (All-tail P u us h) k
    ] refl e

pub arrays_new : (files : List ClassFile) → All IsSmall files → AreNew (class_names files) (listed_arrays Needed files)
arrays_new files small =
    ordered_new (class_names files) (listed_arrays Needed files) (sorted_ordered (filter is_array_type (all_listed Needed files)))
    (λ t e. no_class_name files t small (bracketed t
    (named_of_all (λ u. is_array_type u ≡ true) (listed_arrays Needed files) t (listed_are_arrays Needed files) e)))

pub linked_new : (files : List ClassFile) → All IsSmall files → doubled files ≡ None → AreNew [] (names_of (linked_from files))
linked_new files small single =
    new-append [] (class_names files) (listed_arrays Needed files) (names-new files single) (arrays_new files small)

-- where no two names are the same, no two classes have one
pub classes_differ : (set : Linked) → AllPairs (λ (left right : List ℕ). left ≢ right) (names_of set)
    → AllPairs (λ (c d : ClassFacts). c.shape.name ≢ d.shape.name) (classes_of (facts_of set))
classes_differ set apart i j d l m =
    let classes = classes_of (facts_of set) in
    let names = names_of set in
    let same : map name classes ≡ names = names_listed set in
    let size : length classes ≡ length names = sym (length-map classes name) ∙ ap length same in
    λ e. apart i j (name d) l (omega (arith, m, size))
    (ap (λ ns. slice_index_or ns i (name d)) (sym same) ∙ get_or-map_all name d classes i ∙ e ∙ sym (get_or-map_all name d classes j)
    ∙ ap (λ ns. slice_index_or ns j (name d)) same)

pub linked_apart : (files : List ClassFile) → All IsSmall files → doubled files ≡ None
    → AllPairs (λ (left right : List ℕ). left ≢ right) (names_of (linked_from files))
linked_apart files small single = new_pairs [] (names_of (linked_from files)) (linked_new files small single)

pub names_differ : (files : List ClassFile) → All IsSmall files → doubled files ≡ None
    → AllPairs (λ (c d : ClassFacts). c.shape.name ≢ d.shape.name) (classes_of (facts_of (linked_from files)))
names_differ files small single = classes_differ (linked_from files) (linked_apart files small single)
