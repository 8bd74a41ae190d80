-- Classes that aren't array types, by number and by name.
use Rattle.std.proofs.Common.{◌≡◌, ℕ, zero, suc, ◌+◌, ◌-◌, ◌<◌, ◌≤◌, Bool, true, false, List, [], ◌∷◌, ◌++◌, Some, None, map}
use Rattle.std.proofs.Common.{length, slice_index_or, refl, ap, sym, ◌∙◌, arith, if◌then◌else◌}
use Rattle.std.specs.Prelude.{slice_get}
use Rattle.std.specs.Option.{option_map}
use Rattle.std.specs.Str.{bytes_eq}
use Rattle.std.proofs.lemmas.List.{get_or-append_right, get_or-map, get_or_append_left, length-append, length-map, map-append}
use Rattle.std.proofs.lemmas.Option.{slice_get-get_or, slice_get-map}
use Rattle.class_file.specs.declared.class.ClassFile.{ClassFile}
use Rattle.plain_model.specs.Classes.{ArrayType, ClassFacts, no_class}
use Rattle.plain_model.specs.BuiltIn.{array_class, built_in_classes}
use Rattle.plain_model.specs.Facts.{class_at, classes_of, shapes_of}
use Rattle.built_in_table.specs.declared.built_in.BuiltIn.{BuiltIn as Row}
use Rattle.class_links.specs.Names.{is_interface, name_of}
use Rattle.text_table.specs.Texts.{place_from, place_of}
use Rattle.class_set.specs.Linked.{Linked, class_named, class_names}
use Rattle.class_set.specs.ArrayTypes.{array_type}
use Rattle.class_set.specs.Facts.{class_facts, facts_of, named_classes}
use Rattle.class_set.specs.Sets.{shape_in, shape_named}
use Rattle.class_set.proofs.Above.{get_or-map_all}
use Rattle.class_set.proofs.Differ.{built_ins_named, name, program_names}
use Rattle.class_set.proofs.Supertypes.{classes_listed, program_counted}

-- ---- by number

pub named_counted : (files : List ClassFile) → length (named_classes files) ≡ length files + 28
named_counted files =
    length-append (map (class_facts files) files) (built_in_classes (length files)) ∙ ap (λ n. n + 28) (program_counted files files)

abbrev types_of : Linked → List ClassFacts
types_of set = map (array_class (length set.files)) (map (array_type set.files) set.arrays)

pub named_at : (set : Linked) (n : ℕ) → n < length set.files + 28 → class_at (facts_of set) n ≡ slice_index_or (named_classes set.files) n no_class
named_at set n l =
    ap (λ cs. slice_index_or cs n no_class) (classes_listed set)
    ∙ get_or_append_left (named_classes set.files) (types_of set) no_class n (omega (arith, l, named_counted set.files))

-- ---- interfaces

abbrev interface : ClassFacts → Bool
interface c = c.is_interface

file_flags : (all files : List ClassFile) → map interface (map (class_facts all) files) ≡ map is_interface files
file_flags all [] = refl
file_flags all (c ∷ cs) = ap (λ fs. is_interface c ∷ fs) (file_flags all cs)

named_flags : (files : List ClassFile) → map interface (named_classes files) ≡ map is_interface files ++ map interface (built_in_classes 0)
named_flags files =
    map-append interface (map (class_facts files) files) (built_in_classes (length files))
    ∙ ap (λ fs. fs ++ map interface (built_in_classes (length files))) (file_flags files files)

flag_at : (set : Linked) (n : ℕ) → n < length set.files + 28
    → (class_at (facts_of set) n).is_interface ≡ slice_index_or (map is_interface set.files ++ map interface (built_in_classes 0)) n false
flag_at set n l =
    ap interface (named_at set n l)
    ∙ sym (get_or-map_all interface no_class (named_classes set.files) n)
    ∙ ap (λ fs. slice_index_or fs n false) (named_flags set.files)

pub file_flag : (set : Linked) (n : ℕ) (c : ClassFile) → n < length set.files → c ≡ slice_index_or set.files n c
    → (class_at (facts_of set) n).is_interface ≡ is_interface c
file_flag set n c l at =
    flag_at set n (omega (arith, l))
    ∙ get_or_append_left (map is_interface set.files) (map interface (built_in_classes 0)) false n (omega (arith, l, length-map set.files is_interface))
    ∙ get_or-map is_interface set.files n c false l
    ∙ ap is_interface (sym at)

row_flag : (rows : List Row) (k : ℕ) (row : Row) → slice_get rows k ≡ Some row
    → slice_index_or (map (λ (r : Row). r.is_interface) rows) k false ≡ row.is_interface
row_flag [] k row h = absurd (cc)
row_flag (r ∷ rs) zero row h = (let same : r ≡ row = cc in ap (λ (x : Row). x.is_interface) same)
row_flag (r ∷ rs) (suc k) row h = row_flag rs k row h

pub built_in_flag : (set : Linked) (n : ℕ) (rows : List Row) (row : Row)
    → map (λ (r : Row). r.is_interface) rows ≡ map interface (built_in_classes 0) → length set.files ≤ n → n < length set.files + 28
    → slice_get rows (n - length set.files) ≡ Some row → (class_at (facts_of set) n).is_interface ≡ row.is_interface
built_in_flag set n rows row same past l at =
    flag_at set n l
    ∙ get_or-append_right (map is_interface set.files) (map interface (built_in_classes 0)) (length set.files) n false (length-map set.files is_interface) past
    ∙ ap (λ fs. slice_index_or fs (n - length set.files) false) (sym same)
    ∙ row_flag rows (n - length set.files) row at

no_flag : (first : ℕ) (types : List ArrayType) (k : ℕ) → (slice_index_or (map (array_class first) types) k no_class).is_interface ≡ false
no_flag first [] k = refl
no_flag first (a ∷ more) zero = refl
no_flag first (a ∷ more) (suc k) = no_flag first more k

pub type_flag : (set : Linked) (n : ℕ) → length set.files + 28 ≤ n → (class_at (facts_of set) n).is_interface ≡ false
type_flag set n past =
    let size = named_counted set.files in
    ap (λ cs. interface (slice_index_or cs n no_class)) (classes_listed set)
    ∙ ap interface (get_or-append_right (named_classes set.files) (types_of set) (length set.files + 28) n no_class size past)
    ∙ no_flag (length set.files) (map (array_type set.files) set.arrays) (n - (length set.files + 28))

-- ---- by name

class_names_listed : (files : List ClassFile) → map name (named_classes files) ≡ class_names files
class_names_listed files =
    map-append name (map (class_facts files) files) (built_in_classes (length files))
    ∙ ap (λ ns. ns ++ map name (built_in_classes (length files))) (program_names files files)
    ∙ ap (λ ns. map name_of files ++ ns) (built_ins_named (length files))

named_listed : (set : Linked) → shape_named (facts_of set) ≡ shape_in (named_classes set.files)
named_listed set = ap (λ n. shape_in (map (class_facts set.files) set.files ++ built_in_classes n)) (program_counted set.files set.files)

starts : (n : ℕ) (us : List (List ℕ)) (t : List ℕ) (k : ℕ) → place_from n us t ≡ Some k → n ≤ k
starts n [] t k h = absurd (cc)
starts n (u ∷ us) t k h = elim (bytes_eq u t) as (λ b. (if b then Some n else place_from (n + 1) us t) ≡ Some k → n ≤ k) [
  | true ↦ λ f. (let same : n ≡ k = cc in omega (arith, same))
  | false ↦ λ f. omega (arith, starts (n + 1) us t k f)
] h

shape_placed : (n : ℕ) (cs : List ClassFacts) (others : List (List ℕ)) (t : List ℕ) (k j : ℕ) → place_from n (map name cs ++ others) t ≡ Some k
    → k ≡ n + j → j < length cs → shape_in cs t ≡ Some (slice_index_or cs j no_class).shape
shape_placed n [] others t k j h e l = absurd (omega (arith, l))
shape_placed n (c ∷ cs) others t k zero h e l =
    elim (bytes_eq c.shape.name t) as (λ b. (if b then Some n else place_from (n + 1) (map name cs ++ others) t) ≡ Some k
    → (if b then Some c.shape else shape_in cs t) ≡ Some c.shape) [
      | true ↦ λ f. refl
      | false ↦ λ f. absurd (omega (arith, e, starts (n + 1) (map name cs ++ others) t k f))
    ] h
shape_placed n (c ∷ cs) others t k (suc j) h e l =
    elim (bytes_eq c.shape.name t) as (λ b. (if b then Some n else place_from (n + 1) (map name cs ++ others) t) ≡ Some k
    → (if b then Some c.shape else shape_in cs t) ≡ Some (slice_index_or cs j no_class).shape) [
      | true ↦ λ f. (let same : n ≡ k = cc in absurd (omega (arith, same, e)))
      | false ↦ λ f. shape_placed (n + 1) cs others t k j f (omega (arith, e)) (omega (arith, l))
    ] h

shape_lacking : (n : ℕ) (cs : List ClassFacts) (others : List (List ℕ)) (t : List ℕ)
    → ((k : ℕ) → place_from n (map name cs ++ others) t ≡ Some k → n + length cs ≤ k) → shape_in cs t ≡ None
shape_lacking n [] others t h = refl
shape_lacking n (c ∷ cs) others t h =
    elim (bytes_eq c.shape.name t) as (λ b. ((k : ℕ) → (if b then Some n else place_from (n + 1) (map name cs ++ others) t) ≡ Some k → n + length (c ∷ cs) ≤ k)
    → (if b then Some c.shape else shape_in cs t) ≡ None) [
      | true ↦ λ f. (let past : n + length (c ∷ cs) ≤ n = f n refl in absurd (omega (arith, past)))
      | false ↦ λ f. shape_lacking (n + 1) cs others t (λ k e. omega (arith, f k e))
    ] h

pub shape_found : (set : Linked) (t : List ℕ) (k : ℕ) → class_named set t ≡ Some k → k < length set.files + 28
    → slice_get (shapes_of (facts_of set)) k ≡ shape_named (facts_of set) t
shape_found set t k h l =
    let named = named_classes set.files in
    let classes = classes_of (facts_of set) in
    let size = named_counted set.files in
    let all : length classes ≡ length named + length (types_of set) = ap length (classes_listed set) ∙ length-append named (types_of set) in
    slice_get-map (λ (c : ClassFacts). c.shape) classes k
    ∙ ap (option_map (λ (c : ClassFacts). c.shape)) (slice_get-get_or classes k no_class (omega (arith, l, size, all)))
    ∙ ap (λ (c : ClassFacts). Some c.shape) (named_at set k l)
    ∙ sym (shape_placed 0 named set.arrays t k k (ap (λ ns. place_of (ns ++ set.arrays) t) (class_names_listed set.files) ∙ h) (omega arith) (omega (arith, l, size)))
    ∙ ap (λ f. f t) (sym (named_listed set))

pub shape_not_found : (set : Linked) (t : List ℕ) → ((k : ℕ) → class_named set t ≡ Some k → length set.files + 28 ≤ k)
    → None ≡ shape_named (facts_of set) t
shape_not_found set t h =
    let named = named_classes set.files in
    let size = named_counted set.files in
    sym (ap (λ f. f t) (named_listed set)
    ∙ shape_lacking 0 named set.arrays t (λ k e.
    omega (arith, size, h k (ap (λ ns. place_of (ns ++ set.arrays) t) (sym (class_names_listed set.files)) ∙ e))))
