-- What a text is as a descriptor (JVMS 4.3.2, 4.3.3).
use Rattle.std.specs.Prelude.{◌≡◌, ℕ, ◌==◌, List, Option, Some, None, slice_index_or, if◌then◌else◌}
use Rattle.const_pool.specs.declared.descriptor.BaseType.TheVariants as base
use Rattle.const_pool.specs.declared.descriptor.ElementType.{ElementType}
use Rattle.const_pool.specs.declared.descriptor.ElementType.TheVariants as element
use Rattle.const_pool.specs.declared.descriptor.FieldType.{FieldType}
use Rattle.const_pool.specs.declared.descriptor.Descriptor.{Descriptor}
use Rattle.const_pool.specs.declared.descriptor.Descriptor.TheVariants as descriptor
use Rattle.const_pool.specs.Parsing.{descriptor_at}
use Rattle.const_pool.specs.Pool.{Slots, utf8_at}
use Rattle.class_items.specs.declared.kinds.FieldSort.{FieldSort}
use Rattle.class_items.specs.declared.kinds.FieldSort.TheVariants as sort
use Rattle.class_items.specs.declared.kinds.DescriptorKind.{DescriptorKind}
use Rattle.class_items.specs.declared.kinds.DescriptorKind.TheVariants as kind

abbrev pub sort_of_element : ElementType → FieldSort
sort_of_element (element.Base base.Long) = sort.Long
sort_of_element (element.Base other) = sort.Int
sort_of_element (element.Class name) = sort.Reference

-- an array is held by reference
abbrev pub sort_of : FieldType → FieldSort
sort_of t = if t.dimensions == 0 then sort_of_element t.element else sort.Reference

abbrev pub kind_of_descriptor : Descriptor → DescriptorKind
kind_of_descriptor (descriptor.Field t) = kind.Field (sort_of t)
kind_of_descriptor (descriptor.Method parameters result) = kind.Method

abbrev pub kind_or_neither : Option Descriptor → DescriptorKind
kind_or_neither None = kind.Neither
kind_or_neither (Some d) = kind_of_descriptor d

abbrev pub kind_of_text : List ℕ → DescriptorKind
kind_of_text text = kind_or_neither (descriptor_at text)

abbrev pub kind_of_some : Option (List ℕ) → DescriptorKind
kind_of_some None = kind.Neither
kind_of_some (Some text) = kind_of_text text

-- of the text at an index
unfoldable pub kind_at : Slots → ℕ → DescriptorKind
kind_at pool index = kind_of_some (utf8_at pool index)

-- a kind for each index of the pool
abbrev pub AreKindsOf : Slots → List DescriptorKind → Type 0
AreKindsOf pool kinds = (index : ℕ) → slice_index_or kinds index kind.Neither ≡ kind_at pool index
