-- Array types by number, and what their innermost elements are.
use Rattle.std.proofs.Common.{◌≡◌, ℕ, zero, suc, ◌+◌, ◌-◌, ◌<◌, ◌≤◌, Bool, true, false, nat_lt, List, [], ◌∷◌, Option, Some}
use Rattle.std.proofs.Common.{None, map, length, refl, ap, sym, ◌∙◌, arith, subst, if◌then◌else◌, inl, inr}
use Rattle.std.specs.Prelude.{slice_get}
use Rattle.std.specs.Option.{is_none}
use Rattle.std.proofs.lemmas.Bool.{cases_lt}
use Rattle.std.proofs.lemmas.Bool.Decides.{nat_tests}
use Rattle.const_pool.specs.declared.descriptor.ElementType.{ElementType}
use Rattle.const_pool.specs.declared.descriptor.ElementType.TheVariants as element
use Rattle.const_pool.specs.declared.descriptor.FieldType.{FieldType}
use Rattle.const_pool.specs.declared.descriptor.Descriptor.{Descriptor}
use Rattle.const_pool.specs.declared.descriptor.Descriptor.TheVariants as descriptor
use Rattle.const_pool.specs.Parsing.{descriptor_at}
use Rattle.const_pool.specs.Utf8.{bad_place}
use Rattle.class_file.specs.declared.class.ClassFile.{ClassFile}
use Rattle.plain_model.specs.Classes.{ArrayType, Innermost, Numbers, Objects, Missing}
use Rattle.plain_model.specs.Facts.{array_at, class_count}
use Rattle.text_table.specs.Texts.{place_of}
use Rattle.class_set.specs.Linked.{Linked, class_names}
use Rattle.class_set.specs.ArrayTypes.{array_type, described_array, typed_array, innermost_of, no_array}
use Rattle.class_set.specs.Facts.{facts_of}
use Rattle.class_set.specs.Tables.{AreElements}
use Rattle.class_set.proofs.Above.{class_names_counted}
use Rattle.class_set.proofs.Indices.{place_below}
use Rattle.class_set.proofs.Supertypes.{program_counted}

lt_true : (m n : ℕ) → m < n → nat_lt m n ≡ true
lt_true m n l = elim (nat_lt m n) as (λ b. nat_lt m n ≡ b → b ≡ true) [ true ↦ λ e. refl | false ↦ λ e. absurd (grind (arith, nat_tests)) ] refl

lt_false : (m n : ℕ) → n ≤ m → nat_lt m n ≡ false
lt_false m n l = elim (nat_lt m n) as (λ b. nat_lt m n ≡ b → b ≡ false) [ true ↦ λ e. absurd (grind (arith, nat_tests)) | false ↦ λ e. refl ] refl

pub array_below : (set : Linked) (n : ℕ) → n < length set.files + 28 → array_at (facts_of set) n ≡ None
array_below set n l =
    ap (λ b. if b then None else slice_get (map (array_type set.files) set.arrays) (n - class_count (facts_of set)))
    (lt_true n (class_count (facts_of set)) (omega (arith, l, program_counted set.files set.files)))

pub array_behind : (set : Linked) (n : ℕ) → length set.files + 28 ≤ n
    → array_at (facts_of set) n ≡ slice_get (map (array_type set.files) set.arrays) (n - (length set.files + 28))
array_behind set n h =
    ap (λ b. if b then None else slice_get (map (array_type set.files) set.arrays) (n - class_count (facts_of set)))
    (lt_false n (class_count (facts_of set)) (omega (arith, h, program_counted set.files set.files)))
    ∙ ap (λ m. slice_get (map (array_type set.files) set.arrays) (n - (m + 28))) (program_counted set.files set.files)

-- ---- innermost elements are of classes

abbrev IsOfClass : ℕ → Innermost → Type 0
IsOfClass count (Objects n) = n < count
IsOfClass count innermost = Unit {0}

placed_of_class : (files : List ClassFile) (name : List ℕ) (o : Option ℕ) → place_of (class_names files) name ≡ o
    → IsOfClass (length files + 28) (elim o [ None ↦ Missing name | Some n ↦ Objects n ])
placed_of_class files name None e = tt
placed_of_class files name (Some n) e = omega (arith, place_below 0 (class_names files) name n e, class_names_counted files)

element_of_class : (files : List ClassFile) (t : ElementType) → IsOfClass (length files + 28) (innermost_of files t)
element_of_class files (element.Base b) = tt
element_of_class files (element.Class name) = placed_of_class files name (place_of (class_names files) name) refl

abbrev or_no_array : List ℕ → Option ArrayType → ArrayType
or_no_array text None = no_array text
or_no_array text (Some a) = a

tested_of_class : (files : List ClassFile) (text : List ℕ) (t : FieldType) (b : Bool)
    → IsOfClass (length files + 28) (or_no_array text (if b then Some (typed_array files text t) else None)).innermost
tested_of_class files text t true = element_of_class files t.element
tested_of_class files text t false = tt

described_of_class : (files : List ClassFile) (text : List ℕ) (o : Option Descriptor)
    → IsOfClass (length files + 28) (or_no_array text (described_array files text o)).innermost
described_of_class files text None = tt
described_of_class files text (Some (descriptor.Field t)) = tested_of_class files text t (nat_lt 0 t.dimensions)
described_of_class files text (Some (descriptor.Method parameters result)) = tt

text_of_class : (files : List ClassFile) (text : List ℕ) (b : Bool)
    → IsOfClass (length files + 28) (or_no_array text (if b then described_array files text (descriptor_at text) else None)).innermost
text_of_class files text true = described_of_class files text (descriptor_at text)
text_of_class files text false = tt

pub type_of_class : (files : List ClassFile) (text : List ℕ) → IsOfClass (length files + 28) (array_type files text).innermost
type_of_class files text = text_of_class files text (is_none (bad_place 0 0 text))

pub class_elements : (set : Linked) (innermost : Innermost) → IsOfClass (length set.files + 28) innermost → AreElements (facts_of set) innermost
class_elements set (Numbers kind) h = tt
class_elements set (Objects n) h = array_below set n h
class_elements set (Missing name) h = tt

slice_type : (files : List ClassFile) (arrays : List (List ℕ)) (k : ℕ) (a : ArrayType) → slice_get (map (array_type files) arrays) k ≡ Some a
    → IsOfClass (length files + 28) a.innermost
slice_type files [] k a h = absurd (cc)
slice_type files (t ∷ ts) zero a h = (let same : array_type files t ≡ a = cc in subst (λ (x : ArrayType). IsOfClass (length files + 28) x.innermost) same (type_of_class files t))
slice_type files (t ∷ ts) (suc k) a h = slice_type files ts k a h

-- of an array type of the set
pub array_elements : (set : Linked) (n : ℕ) (a : ArrayType) → array_at (facts_of set) n ≡ Some a → AreElements (facts_of set) a.innermost
array_elements set n a h = elim (cases_lt n (length set.files + 28)) [
  | inl l ↦ absurd (none_some (sym (array_below set n l) ∙ h))
  | inr b ↦ class_elements set a.innermost
      (slice_type set.files set.arrays (n - (length set.files + 28)) a (sym (array_behind set n b) ∙ h))
]
  where
    none_some : {a : ArrayType} → None ≡ Some a → ⊥
    none_some e = absurd (cc)
