-- Fields and methods, read from front to back with the first fault that is met, and their bytes (JVMS 4.5,
-- 4.6).
use Rattle.std.specs.Prelude.{ℕ, zero, suc, ◌+◌, ◌==◌, ◌||◌, not, bit_and, Bool, true, false, List, [], ◌∷◌, ◌++◌, length}
use Rattle.std.specs.Prelude.{codes, Option, Some, None, Result, Ok, Err, if◌then◌else◌}
use Rattle.std.specs.List.{flat_map, list_any}
use Rattle.std.specs.Str.{bytes_eq}
use Rattle.byteorder.specs.Endian.{big_bytes, big_number}
use Rattle.const_pool.specs.declared.entry.Tag.{Tag}
use Rattle.const_pool.specs.declared.entry.Tag.TheVariants.{Utf8, Integer, Long, String}
use Rattle.const_pool.specs.Pool.{Slots, entry_at, is_tagged, utf8_at}
use Rattle.parsing.specs.Places.{Place, number_at}
use Rattle.class_items.specs.declared.attribute.Attribute.{Attribute}
use Rattle.class_items.specs.declared.kinds.FieldSort.TheVariants as sort
use Rattle.class_items.specs.declared.kinds.DescriptorKind.{DescriptorKind}
use Rattle.class_items.specs.declared.kinds.DescriptorKind.TheVariants as kind
use Rattle.class_items.specs.Kinds.{kind_at}
use Rattle.parsing.specs.Results.{◌>>=◌, placed, unless}
use Rattle.class_items.specs.Items.{index_at, attribute_at, attribute_bytes, attributes_bytes}
use Rattle.annotations.specs.Annotations.{annotations_in}
use Rattle.code_attribute.specs.declared.code.Code.{Code}
use Rattle.code_attribute.specs.Code.{code_attribute_at, code_attribute_bytes}
use Rattle.class_file.specs.declared.field.Field.{Field}
pub use Rattle.class_file.specs.declared.facts.Fact.{Fact}
pub use Rattle.class_file.specs.declared.facts.Fact.TheVariants.{Constant, Marked, Nothing}
pub use Rattle.class_file.specs.declared.facts.Facts.{Facts}
use Rattle.class_file.specs.declared.method.MethodAttribute.{MethodAttribute}
use Rattle.class_file.specs.declared.method.MethodAttribute.TheVariants as attribute
use Rattle.class_file.specs.declared.method.Method.{Method}
use Rattle.class_file.specs.declared.refusal.ClassRefusal.{ClassRefusal}
use Rattle.class_file.specs.declared.refusal.ClassRefusal.TheVariants as refusal
use Rattle.class_file.specs.Refusals.{of_cut, of_item, of_annotations, of_code}

abbrev pub number : ℕ → Place → Result (ℕ × Place) ClassRefusal
number n file = placed of_cut (number_at n file)

abbrev pub index : Slots → Tag → Place → Result (ℕ × Place) ClassRefusal
index pool tag file = placed of_item (index_at pool tag file)

-- the text at this index is this one
abbrev pub is_text : Slots → ℕ → List ℕ → Bool
is_text pool index text = elim (utf8_at pool index) [ None ↦ false | Some found ↦ bytes_eq found text ]

-- the text at an index has a byte of this kind
abbrev pub has_byte : (ℕ → Bool) → Slots → ℕ → Bool
has_byte test pool index = elim (utf8_at pool index) [ None ↦ false | Some found ↦ list_any test found ]

-- . ; [ and / (JVMS 4.2.2)
abbrev pub is_barred : ℕ → Bool
is_barred b = (b == 46) || ((b == 59) || ((b == 91) || (b == 47)))

abbrev pub is_static : ℕ → Bool
is_static access = not (bit_and access 8 == 0)

-- ---- fields

-- JVMS 4.7.2, 4.7.16, 4.7.17. The index of a constant is judged when the field's attributes are known.
unfoldable pub fact_of : Slots → (at : ℕ) → Attribute → Result Fact ClassRefusal
fact_of pool at a =
    if is_text pool a.name (codes "ConstantValue") then
    (if length a.content == 2 then Ok (Constant (at + 6) (big_number 2 a.content))
    else Err (refusal.BadAttribute at))
    else (if is_text pool a.name (codes "RuntimeVisibleAnnotations")
    || is_text pool a.name (codes "RuntimeInvisibleAnnotations") then
    (placed (of_annotations at) (annotations_in pool (at + 6, a.content)) >>= λ marks. Ok (Marked marks))
    else Ok Nothing)

abbrev pub no_facts : Facts
no_facts = record { constant = None; root = false; unrecoverable = false }

abbrev pub first_of : Option (ℕ × ℕ) → ℕ × ℕ → Option (ℕ × ℕ)
first_of None found = Some found
first_of (Some before) found = Some before

abbrev pub with_fact : Facts → Fact → Facts
with_fact facts (Constant offset index) = record facts { constant = first_of facts.constant (offset, index) }
with_fact facts (Marked marks) =
    record facts { root = facts.root || marks.root; unrecoverable = facts.unrecoverable || marks.unrecoverable }
with_fact facts Nothing = facts

-- so many attributes, and what they say beside what is known
unfoldable pub field_attributes_from : Slots → ℕ → Facts → Place
    → Result ((List Attribute × Facts) × Place) ClassRefusal
field_attributes_from pool zero facts file = Ok (([], facts), file)
field_attributes_from pool (suc count) facts file = do
  a ← placed of_item (attribute_at pool file)
  fact ← fact_of pool file.0 a.0
  others ← field_attributes_from pool count (with_fact facts fact) a.1
  Ok ((a.0 ∷ others.0.0, others.0.1), others.1)

-- the tag of a constant for a field of this descriptor (JVMS table 4.7.2-A)
abbrev pub constant_tag : Slots → (descriptor : ℕ) → DescriptorKind → Option Tag
constant_tag pool descriptor (kind.Field sort.Int) = Some Integer
constant_tag pool descriptor (kind.Field sort.Long) = Some Long
constant_tag pool descriptor (kind.Field sort.Reference) =
    if is_text pool descriptor (codes "Ljava/lang/String;") then Some String else None
constant_tag pool descriptor other = None

abbrev pub is_constant : Slots → Option Tag → ℕ → Bool
is_constant pool None index = false
is_constant pool (Some tag) index = is_tagged (entry_at pool index) tag

-- The constant of a field that is no durable root. That of one that isn't static is passed over (JVMS 4.7.2).
abbrev pub constant_of : Slots → (access descriptor : ℕ) → Option (ℕ × ℕ) → Result (Option ℕ) ClassRefusal
constant_of pool access descriptor None = Ok None
constant_of pool access descriptor (Some found) =
    if is_static access then
    (if is_constant pool (constant_tag pool descriptor (kind_at pool descriptor)) found.1 then Ok (Some found.1)
    else Err (refusal.BadIndex found.0 found.1))
    else Ok None

abbrev pub is_reference : DescriptorKind → Bool
is_reference (kind.Field sort.Reference) = true
is_reference other = false

abbrev pub is_field : DescriptorKind → Bool
is_field (kind.Field s) = true
is_field other = false

-- the text at an index is among these
abbrev pub is_among : Slots → List ℕ → ℕ → Bool
is_among pool names index =
    elim (utf8_at pool index) [ None ↦ false | Some found ↦ list_any (λ name. is_text pool name found) names ]

-- A durable root is static and of a reference type, and no durable root before has its name; `roots` are the
-- indices of their names.
abbrev pub is_no_root : Slots → (roots : List ℕ) → (access name descriptor : ℕ) → Bool
is_no_root pool roots access name descriptor =
    not (is_static access) || (not (is_reference (kind_at pool descriptor)) || is_among pool roots name)

-- the constant of a field, of which the number among the fields is given
abbrev pub judged : Slots → (roots : List ℕ) → (field access name descriptor : ℕ) → Facts
    → Result (Option ℕ) ClassRefusal
judged pool roots field access name descriptor facts =
    if facts.root then
    (if is_no_root pool roots access name descriptor then Err (refusal.RootNotReference field) else Ok None)
    else constant_of pool access descriptor facts.constant

-- a field (JVMS 4.5)
unfoldable pub field_at : Slots → (roots : List ℕ) → (field : ℕ) → Place → Result (Field × Place) ClassRefusal
field_at pool roots field file = do
  access ← number 2 file
  name ← index pool Utf8 access.1
  spelled ← unless (has_byte is_barred pool name.0) (refusal.BadIndex access.1.0 name.0)
  descriptor ← index pool Utf8 name.1
  typed ← unless (not (is_field (kind_at pool descriptor.0))) (refusal.BadDescriptor descriptor.0)
  count ← number 2 descriptor.1
  attributes ← field_attributes_from pool count.0 no_facts count.1
  constant ← judged pool roots field access.0 name.0 descriptor.0 attributes.0.1
  Ok (
    record {
      access = access.0;
      name = name.0;
      descriptor = descriptor.0;
      attributes = attributes.0.0;
      constant = constant;
      root = attributes.0.1.root;
      unrecoverable = attributes.0.1.unrecoverable;
    },
    attributes.1,
  )

abbrev pub with_root : List ℕ → Field → List ℕ
with_root roots f = if f.root then roots ++ f.name ∷ [] else roots

-- so many fields, from this number on
unfoldable pub fields_from : Slots → (roots : List ℕ) → (field count : ℕ) → Place
    → Result (List Field × Place) ClassRefusal
fields_from pool roots field zero file = Ok ([], file)
fields_from pool roots field (suc count) file = do
  first ← field_at pool roots field file
  others ← fields_from pool (with_root roots first.0) (field + 1) count first.1
  Ok (first.0 ∷ others.0, others.1)

unfoldable pub fields_at : Slots → Place → Result (List Field × Place) ClassRefusal
fields_at pool file = do
  count ← number 2 file
  fields_from pool [] 0 count.0 count.1

-- ---- methods

abbrev pub code_in : List MethodAttribute → Option Code
code_in [] = None
code_in (attribute.Code name code ∷ attributes) = Some code
code_in (attribute.Other a ∷ attributes) = code_in attributes

-- how many instructions a code has, with the end behind them; none has the end alone
abbrev pub counted_ops : Option Code → ℕ
counted_ops None = 1
counted_ops (Some code) = length code.instructions + 1

abbrev pub op_count : Method → ℕ
op_count m = counted_ops (code_in m.attributes)

abbrev pub is_method : DescriptorKind → Bool
is_method kind.Method = true
is_method other = false

-- abstract or native (JVMS 4.7.3)
abbrev pub has_no_code : ℕ → Bool
has_no_code access = not (bit_and access 0x0500 == 0)

-- the Code of a method, in an attribute that begins at this offset; `done` says that none may stand here
unfoldable pub code_at : Slots → (method at : ℕ) → (done : Bool) → Attribute
    → Result MethodAttribute ClassRefusal
code_at pool method at done a = do
  once ← unless done (refusal.BadAttribute at)
  code ← placed (of_code method at) (code_attribute_at pool (at + 6, a.content))
  Ok (attribute.Code a.name code)

abbrev pub looked_into : Slots → (method at : ℕ) → (done : Bool) → Attribute
    → Result MethodAttribute ClassRefusal
looked_into pool method at done a =
    if is_text pool a.name (codes "Code") then code_at pool method at done a else Ok (attribute.Other a)

unfoldable pub method_attribute_at : Slots → (method : ℕ) → (done : Bool) → Place
    → Result (MethodAttribute × Place) ClassRefusal
method_attribute_at pool method done file = do
  a ← placed of_item (attribute_at pool file)
  known ← looked_into pool method file.0 done a.0
  Ok (known, a.1)

abbrev pub is_code : MethodAttribute → Bool
is_code (attribute.Code name code) = true
is_code (attribute.Other a) = false

unfoldable pub method_attributes_from : Slots → (method : ℕ) → (done : Bool) → (count : ℕ) → Place
    → Result (List MethodAttribute × Place) ClassRefusal
method_attributes_from pool method done zero file = Ok ([], file)
method_attributes_from pool method done (suc count) file = do
  first ← method_attribute_at pool method done file
  others ← method_attributes_from pool method (done || is_code first.0) count first.1
  Ok (first.0 ∷ others.0, others.1)

-- a method (JVMS 4.6), of which the number among the methods is given
unfoldable pub method_at : Slots → (method : ℕ) → Place → Result (Method × Place) ClassRefusal
method_at pool method file = do
  access ← number 2 file
  name ← index pool Utf8 access.1
  descriptor ← index pool Utf8 name.1
  typed ← unless (not (is_method (kind_at pool descriptor.0))) (refusal.BadDescriptor descriptor.0)
  count ← number 2 descriptor.1
  attributes ← method_attributes_from pool method (has_no_code access.0) count.0 count.1
  coded ← unless (not (has_no_code access.0 || list_any is_code attributes.0)) (refusal.BadAttribute file.0)
  Ok (
    record { access = access.0; name = name.0; descriptor = descriptor.0; attributes = attributes.0 },
    attributes.1,
  )

-- so many methods, from this number on
unfoldable pub methods_from : Slots → (method count : ℕ) → Place → Result (List Method × Place) ClassRefusal
methods_from pool method zero file = Ok ([], file)
methods_from pool method (suc count) file = do
  first ← method_at pool method file
  others ← methods_from pool (method + 1) count first.1
  Ok (first.0 ∷ others.0, others.1)

unfoldable pub methods_at : Slots → Place → Result (List Method × Place) ClassRefusal
methods_at pool file = do
  count ← number 2 file
  methods_from pool 0 count.0 count.1

-- ---- bytes

abbrev pub field_bytes : Field → List ℕ
field_bytes f =
    big_bytes 2 f.access ++ big_bytes 2 f.name ++ big_bytes 2 f.descriptor ++ attributes_bytes f.attributes

abbrev pub method_attribute_bytes : MethodAttribute → List ℕ
method_attribute_bytes (attribute.Code name code) =
    big_bytes 2 name ++ big_bytes 4 (length (code_attribute_bytes code)) ++ code_attribute_bytes code
method_attribute_bytes (attribute.Other a) = attribute_bytes a

abbrev pub method_bytes : Method → List ℕ
method_bytes m =
    big_bytes 2 m.access ++ big_bytes 2 m.name ++ big_bytes 2 m.descriptor
    ++ big_bytes 2 (length m.attributes) ++ flat_map method_attribute_bytes m.attributes
