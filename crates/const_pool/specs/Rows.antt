-- Rows of the JVMS: what stands behind the first eight bytes of a file and the pool that it is, or the first
-- fault, and texts and the descriptors that they are.
use Rattle.std.specs.Prelude.{◌≡◌, ℕ, pos, List, [], ◌∷◌, ◌++◌, map, replicate, codes, Option, Some, None, Result, Ok, Err}
use Rattle.const_pool.specs.declared.refusal.PoolRefusal.{PoolRefusal}
use Rattle.const_pool.specs.declared.refusal.PoolRefusal.TheVariants.{Truncated, BadTag, BadIndex, BadUtf8}
use Rattle.const_pool.specs.declared.entry.Entry.TheVariants as entry
use Rattle.const_pool.specs.declared.descriptor.BaseType.TheVariants as base
use Rattle.const_pool.specs.declared.descriptor.ElementType.TheVariants as element
use Rattle.const_pool.specs.declared.descriptor.FieldType.{FieldType}
use Rattle.const_pool.specs.declared.descriptor.Descriptor.{Descriptor}
use Rattle.const_pool.specs.declared.descriptor.Descriptor.TheVariants as descriptor
use Rattle.const_pool.specs.Pool.{Slots}
use Rattle.const_pool.specs.Reading.{pool_in}
use Rattle.const_pool.specs.Parsing.{descriptor_at}

-- ---- pools

abbrev pub AreAnswers : List (List ℕ × Result (Slots × ℕ) PoolRefusal) → Type 0
AreAnswers rows = map (λ row. pool_in (replicate 8 0 ++ row.0)) rows ≡ map (λ row. row.1) rows

-- No entry, and a byte behind the pool; a Long, which takes two indices; a Class and its name; a text of the
-- character 0; an unread method handle.
abbrev pub pools : List (List ℕ × Result (Slots × ℕ) PoolRefusal)
pools =
    (0 ∷ 1 ∷ [], Ok (None ∷ [], 10))
    ∷ (0 ∷ 1 ∷ 7 ∷ [], Ok (None ∷ [], 10))
    ∷ (0 ∷ 3 ∷ 5 ∷ 0 ∷ 0 ∷ 0 ∷ 0 ∷ 0 ∷ 0 ∷ 0 ∷ 7 ∷ [], Ok (None ∷ Some (entry.Long (pos 7)) ∷ None ∷ [], 19))
    ∷ (
      0 ∷ 3 ∷ 7 ∷ 0 ∷ 2 ∷ 1 ∷ 0 ∷ 1 ∷ 65 ∷ [],
      Ok (None ∷ Some (entry.Class 2) ∷ Some (entry.Utf8 (codes "A")) ∷ [], 17),
    )
    ∷ (0 ∷ 2 ∷ 1 ∷ 0 ∷ 2 ∷ 192 ∷ 128 ∷ [], Ok (None ∷ Some (entry.Utf8 (192 ∷ 128 ∷ [])) ∷ [], 15))
    ∷ (0 ∷ 2 ∷ 15 ∷ 6 ∷ 0 ∷ 13 ∷ [], Ok (None ∷ Some (entry.MethodHandle (6 ∷ 0 ∷ 13 ∷ [])) ∷ [], 14))
    ∷ []

-- A count of 0; a count that is cut off, and a text; the tag 17; an index equal to the count; a Long whose
-- second index is equal to the count; a String that names a Class; the character A in two bytes; the
-- character 0 in one.
abbrev pub no_pools : List (List ℕ × Result (Slots × ℕ) PoolRefusal)
no_pools =
    (0 ∷ 0 ∷ [], Err (BadIndex 0 0))
    ∷ (0 ∷ [], Err (Truncated 8))
    ∷ (0 ∷ 2 ∷ 1 ∷ 0 ∷ 2 ∷ 65 ∷ [], Err (Truncated 13))
    ∷ (0 ∷ 2 ∷ 17 ∷ 0 ∷ 0 ∷ 0 ∷ 0 ∷ [], Err (BadTag 10))
    ∷ (0 ∷ 2 ∷ 7 ∷ 0 ∷ 2 ∷ [], Err (BadIndex 1 2))
    ∷ (0 ∷ 2 ∷ 5 ∷ 0 ∷ 0 ∷ 0 ∷ 0 ∷ 0 ∷ 0 ∷ 0 ∷ 7 ∷ [], Err (BadIndex 1 2))
    ∷ (0 ∷ 4 ∷ 1 ∷ 0 ∷ 0 ∷ 7 ∷ 0 ∷ 1 ∷ 8 ∷ 0 ∷ 2 ∷ [], Err (BadIndex 3 2))
    ∷ (0 ∷ 2 ∷ 1 ∷ 0 ∷ 2 ∷ 193 ∷ 129 ∷ [], Err (BadUtf8 13))
    ∷ (0 ∷ 2 ∷ 1 ∷ 0 ∷ 1 ∷ 0 ∷ [], Err (BadUtf8 13))
    ∷ []

-- ---- descriptors

abbrev pub AreParsed : List (List ℕ × Option Descriptor) → Type 0
AreParsed rows = map (λ row. descriptor_at row.0) rows ≡ map (λ row. row.1) rows

abbrev pub int : FieldType
int = record { dimensions = 0; element = element.Base base.Int }

-- an array of so many dimensions
abbrev pub brackets : ℕ → List ℕ
brackets dimensions = replicate dimensions 91 ++ codes "I"

abbrev pub descriptors : List (List ℕ × Option Descriptor)
descriptors =
    (codes "I", Some (descriptor.Field int))
    ∷ (codes "[La/B;", Some (descriptor.Field (record { dimensions = 1; element = element.Class (codes "a/B") })))
    ∷ (codes "()V", Some (descriptor.Method [] None))
    ∷ (codes "(II)I", Some (descriptor.Method (int ∷ int ∷ []) (Some int)))
    ∷ (brackets 255, Some (descriptor.Field (record int { dimensions = 255 })))
    ∷ []

-- float, `void` by itself and as a parameter, two types, no name and an empty part of one, and 256 dimensions
abbrev pub no_descriptors : List (List ℕ × Option Descriptor)
no_descriptors =
    (codes "F", None) ∷ (codes "V", None) ∷ (codes "(V)V", None) ∷ (codes "II", None) ∷ (codes "L;", None)
    ∷ (codes "La//B;", None) ∷ (brackets 256, None) ∷ []
