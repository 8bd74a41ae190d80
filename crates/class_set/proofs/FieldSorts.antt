-- The kind of a field is of the sort that its descriptor tells, and its constant and its mark as a durable root are of that kind.
use Rattle.std.proofs.Common.{◌≡◌, ℕ, zero, suc, ℤ, ◌==◌, Bool, true, false, replicate, List, [], ◌++◌, Option, Some, None}
use Rattle.std.proofs.Common.{refl, sym, arith, subst, if◌then◌else◌}
use Rattle.std.specs.Prelude.{codes}
use Rattle.std.specs.Option.{option_map}
use Rattle.std.proofs.lemmas.Bool.{eqb-true, false≢true}
use Rattle.ap_base.specs.declared.kind.Kind.{Kind}
use Rattle.ap_base.specs.declared.kind.Kind.TheVariants.{J, L}
use Rattle.graph_model.specs.declared.types.Value.TheVariants.{Int, Long}
use Rattle.const_pool.specs.declared.descriptor.BaseType.TheVariants as base
use Rattle.const_pool.specs.declared.descriptor.ElementType.{ElementType}
use Rattle.const_pool.specs.declared.descriptor.ElementType.TheVariants as element
use Rattle.const_pool.specs.declared.descriptor.Descriptor.{Descriptor}
use Rattle.const_pool.specs.declared.descriptor.Descriptor.TheVariants as descriptor
use Rattle.const_pool.specs.declared.entry.Tag.TheVariants as tag
use Rattle.const_pool.specs.declared.entry.Entry.{Entry}
use Rattle.const_pool.specs.declared.entry.Entry.TheVariants as entry
use Rattle.const_pool.specs.Descriptor.{element_bytes}
use Rattle.const_pool.specs.Parsing.{descriptor_at}
use Rattle.const_pool.specs.Pool.{Slots, entry_at, is_tagged, utf8_at}
use Rattle.const_pool.specs.Utf8.{IsModifiedUtf8}
use Rattle.const_pool.proofs.Grammar.{descriptor_takes}
use Rattle.class_items.specs.declared.kinds.FieldSort.{FieldSort}
use Rattle.class_items.specs.declared.kinds.FieldSort.TheVariants as sort
use Rattle.class_items.specs.declared.kinds.DescriptorKind.{DescriptorKind}
use Rattle.class_items.specs.declared.kinds.DescriptorKind.TheVariants as kind
use Rattle.class_items.specs.Kinds.{kind_at, kind_of_some, kind_or_neither, sort_of, sort_of_element}
use Rattle.class_file.specs.declared.class.ClassFile.{ClassFile}
use Rattle.class_file.specs.declared.field.Field.{Field as FileField}
use Rattle.class_file.specs.Members.{constant_tag, is_constant, is_reference, is_text}
use Rattle.plain_model.specs.Facts.{LiteralConstant}
use Rattle.plain_model.specs.Consistent.{IsConstantOf}
use Rattle.plain_model.specs.Kinds.{HasKind}
use Rattle.class_set.specs.Literals.{literal_place}
use Rattle.class_set.specs.Members.{kind_of, text_at}
use Rattle.class_set.specs.Facts.{constant_in, constant_of}
use Rattle.class_set.proofs.PoolTexts.{HasTexts}
use Rattle.class_set.proofs.FieldsRead.{IsJudged}

-- ---- sorts

-- the kind is one of this sort
abbrev IsOfSort : FieldSort → Kind → Type 0
IsOfSort sort.Int k = (n : ℤ) → HasKind k (Int n)
IsOfSort sort.Long k = k ≡ J
IsOfSort sort.Reference k = k ≡ L

abbrev IsSorted : DescriptorKind → Kind → Type 0
IsSorted (kind.Field s) k = IsOfSort s k
IsSorted other k = Unit {0}

element_sorted : (dimensions : ℕ) (t : ElementType)
    → IsOfSort (if dimensions == 0 then sort_of_element t else sort.Reference) (kind_of (replicate dimensions 91 ++ element_bytes t))
element_sorted zero (element.Base base.Byte) = λ n. tt
element_sorted zero (element.Base base.Char) = λ n. tt
element_sorted zero (element.Base base.Int) = λ n. tt
element_sorted zero (element.Base base.Long) = refl
element_sorted zero (element.Base base.Short) = λ n. tt
element_sorted zero (element.Base base.Boolean) = λ n. tt
element_sorted zero (element.Class name) = refl
element_sorted (suc more) t =
    elim (suc more == 0) as (λ b. (suc more == 0) ≡ b
    → IsOfSort (if b then sort_of_element t else sort.Reference) (kind_of (replicate (suc more) 91 ++ element_bytes t))) [
      | true ↦ λ e. (let none : suc more ≡ 0 = eqb-true (suc more) 0 e in absurd (omega (arith, none)))
      | false ↦ λ e. refl
    ] refl

descriptor_sorted : (t : List ℕ) (o : Option Descriptor) → IsModifiedUtf8 t → descriptor_at t ≡ o → IsSorted (kind_or_neither o) (kind_of t)
descriptor_sorted t None good e = tt
descriptor_sorted t (Some (descriptor.Method parameters result)) good e = tt
descriptor_sorted t (Some (descriptor.Field f)) good e =
    subst (λ bytes. IsOfSort (sort_of f) (kind_of bytes)) (sym (descriptor_takes t (descriptor.Field f) good e).parts)
    (element_sorted f.dimensions f.element)

text_sorted : (o : Option (List ℕ)) → ((t : List ℕ) → o ≡ Some t → IsModifiedUtf8 t)
    → IsSorted (kind_of_some o) (kind_of (elim o [ None ↦ [] | Some t ↦ t ]))
text_sorted None h = tt
text_sorted (Some t) h = descriptor_sorted t (descriptor_at t) (h t refl) refl

pub field_sorted : (pool : Slots) (i : ℕ) → HasTexts pool → IsSorted (kind_at pool i) (kind_of (text_at pool i))
unfolding kind_at
field_sorted pool i h = text_sorted (utf8_at pool i) (h i)

-- ---- durable roots

pub reference_kind : (d : DescriptorKind) (k : Kind) → IsSorted d k → is_reference d ≡ true → k ≡ L
reference_kind (kind.Field sort.Reference) k h e = h
reference_kind (kind.Field sort.Int) k h e = absurd (false≢true e)
reference_kind (kind.Field sort.Long) k h e = absurd (false≢true e)
reference_kind kind.Method k h e = absurd (false≢true e)
reference_kind kind.Neither k h e = absurd (false≢true e)

-- ---- constants

literal_kind : (k : Kind) (o : Option ℕ) → k ≡ L → IsConstantOf k (option_map (λ place. LiteralConstant place) o)
literal_kind k None h = tt
literal_kind k (Some place) h = h

int_kind : (files : List ClassFile) (pool : Slots) (i : ℕ) (k : Kind) (o : Option Entry) → is_tagged o tag.Integer ≡ true
    → ((n : ℤ) → HasKind k (Int n)) → IsConstantOf k (constant_in files pool i o)
int_kind files pool i k None e h = absurd (false≢true e)
int_kind files pool i k (Some (entry.Integer n)) e h = h n
int_kind files pool i k (Some (entry.Long n)) e h = absurd (false≢true e)
int_kind files pool i k (Some (entry.String t)) e h = absurd (false≢true e)
int_kind files pool i k other e h = tt

long_kind : (files : List ClassFile) (pool : Slots) (i : ℕ) (k : Kind) (o : Option Entry) → is_tagged o tag.Long ≡ true
    → k ≡ J → IsConstantOf k (constant_in files pool i o)
long_kind files pool i k None e h = absurd (false≢true e)
long_kind files pool i k (Some (entry.Integer n)) e h = absurd (false≢true e)
long_kind files pool i k (Some (entry.Long n)) e h = subst (λ j. HasKind j (Long n)) (sym h) tt
long_kind files pool i k (Some (entry.String t)) e h = absurd (false≢true e)
long_kind files pool i k other e h = tt

string_kind : (files : List ClassFile) (pool : Slots) (i : ℕ) (k : Kind) (o : Option Entry) → is_tagged o tag.String ≡ true
    → k ≡ L → IsConstantOf k (constant_in files pool i o)
string_kind files pool i k None e h = absurd (false≢true e)
string_kind files pool i k (Some (entry.Integer n)) e h = absurd (false≢true e)
string_kind files pool i k (Some (entry.Long n)) e h = absurd (false≢true e)
string_kind files pool i k (Some (entry.String t)) e h = literal_kind k (literal_place files pool i) h
string_kind files pool i k other e h = tt

reference_constant : (files : List ClassFile) (pool : Slots) (i : ℕ) (k : Kind) (text : Bool)
    → is_constant pool (if text then Some tag.String else None) i ≡ true → k ≡ L → IsConstantOf k (constant_in files pool i (entry_at pool i))
reference_constant files pool i k true e h = string_kind files pool i k (entry_at pool i) e h
reference_constant files pool i k false e h = absurd (false≢true e)

sorted_constant : (files : List ClassFile) (pool : Slots) (d i : ℕ) (k : Kind) (s : DescriptorKind) → IsSorted s k
    → is_constant pool (constant_tag pool d s) i ≡ true → IsConstantOf k (constant_in files pool i (entry_at pool i))
sorted_constant files pool d i k (kind.Field sort.Int) h e = int_kind files pool i k (entry_at pool i) e h
sorted_constant files pool d i k (kind.Field sort.Long) h e = long_kind files pool i k (entry_at pool i) e h
sorted_constant files pool d i k (kind.Field sort.Reference) h e =
    reference_constant files pool i k (is_text pool d (codes "Ljava/lang/String;")) e h
sorted_constant files pool d i k kind.Method h e = absurd (false≢true e)
sorted_constant files pool d i k kind.Neither h e = absurd (false≢true e)

some_constant : (files : List ClassFile) (pool : Slots) (d : ℕ) (o : Option ℕ) → HasTexts pool
    → ((i : ℕ) → o ≡ Some i → is_constant pool (constant_tag pool d (kind_at pool d)) i ≡ true)
    → IsConstantOf (kind_of (text_at pool d)) (constant_of files pool o)
some_constant files pool d None good h = tt
some_constant files pool d (Some i) good h =
    sorted_constant files pool d i (kind_of (text_at pool d)) (kind_at pool d) (field_sorted pool d good) (h i refl)

pub constant_kind : (files : List ClassFile) (pool : Slots) (f : FileField) → HasTexts pool → IsJudged pool f
    → IsConstantOf (kind_of (text_at pool f.descriptor)) (constant_of files pool f.constant)
constant_kind files pool f good h = some_constant files pool f.descriptor f.constant good h.constant

pub root_kind : (pool : Slots) (f : FileField) → HasTexts pool → IsJudged pool f → f.root ≡ true → kind_of (text_at pool f.descriptor) ≡ L
root_kind pool f good h e =
    reference_kind (kind_at pool f.descriptor) (kind_of (text_at pool f.descriptor)) (field_sorted pool f.descriptor good) (h.root e)
