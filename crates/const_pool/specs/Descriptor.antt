-- Descriptors of fields and methods (JVMS 4.3.2, 4.3.3), without those of float and double.
use Rattle.std.specs.Prelude.{◌≡◌, ◌≢◌, ℕ, ◌<◌, ◌≤◌, ◌++◌, List, [], ◌∷◌, length, replicate, Option, Some, None, IfSome, ⊤}
use Rattle.std.specs.List.{flat_map, join_with_byte, AllByRecursion}
use Rattle.const_pool.specs.declared.descriptor.BaseType.{BaseType}
use Rattle.const_pool.specs.declared.descriptor.BaseType.TheVariants as base
use Rattle.const_pool.specs.declared.descriptor.ElementType.{ElementType}
use Rattle.const_pool.specs.declared.descriptor.ElementType.TheVariants as element
use Rattle.const_pool.specs.declared.descriptor.FieldType.{FieldType}
use Rattle.const_pool.specs.declared.descriptor.Descriptor.{Descriptor}
use Rattle.const_pool.specs.declared.descriptor.Descriptor.TheVariants as descriptor
use Rattle.const_pool.specs.Utf8.{IsModifiedUtf8}

-- ---- names

-- A byte of an unqualified name: none of . ; [ and / (JVMS 4.2.2).
abbrev pub IsNameByte : ℕ → Type 0
IsNameByte b = (b ≢ 46) × (b ≢ 59) × (b ≢ 91) × (b ≢ 47)

abbrev pub IsUnqualified : List ℕ → Type 0
IsUnqualified part = (0 < length part) × AllByRecursion IsNameByte part

-- A class name in internal form: unqualified names with slashes between them (JVMS 4.2.1).
abbrev pub IsClassName : List ℕ → Type 0
IsClassName name =
    (parts : List (List ℕ)) × (0 < length parts) × AllByRecursion IsUnqualified parts
    × (name ≡ join_with_byte 47 parts)

-- ---- the spelling of each descriptor

-- the letters B C I J S Z
abbrev pub base_byte : BaseType → ℕ
base_byte base.Byte = 66
base_byte base.Char = 67
base_byte base.Int = 73
base_byte base.Long = 74
base_byte base.Short = 83
base_byte base.Boolean = 90

-- a letter, or L and a class name and ;
abbrev pub element_bytes : ElementType → List ℕ
element_bytes (element.Base b) = base_byte b ∷ []
element_bytes (element.Class name) = 76 ∷ (name ++ 59 ∷ [])

-- a [ for each dimension first
abbrev pub field_bytes : FieldType → List ℕ
field_bytes t = replicate t.dimensions 91 ++ element_bytes t.element

-- V where there is no result
abbrev pub result_bytes : Option FieldType → List ℕ
result_bytes None = 86 ∷ []
result_bytes (Some t) = field_bytes t

-- a method's parameters stand in parentheses
abbrev pub descriptor_bytes : Descriptor → List ℕ
descriptor_bytes (descriptor.Field t) = field_bytes t
descriptor_bytes (descriptor.Method parameters result) =
    40 ∷ (flat_map field_bytes parameters ++ 41 ∷ result_bytes result)

-- ---- which descriptors there are

abbrev pub IsElement : ElementType → Type 0
IsElement (element.Base b) = ⊤
IsElement (element.Class name) = IsClassName name × IsModifiedUtf8 name

abbrev pub IsFieldType : FieldType → Type 0
IsFieldType t = (t.dimensions ≤ 255) × IsElement t.element

abbrev pub IsDescriptor : Descriptor → Type 0
IsDescriptor (descriptor.Field t) = IsFieldType t
IsDescriptor (descriptor.Method parameters result) =
    AllByRecursion IsFieldType parameters × IfSome result IsFieldType
