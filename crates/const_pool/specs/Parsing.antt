-- Reading a descriptor from its front.
use Rattle.std.specs.Prelude.{ℕ, zero, suc, ◌+◌, List, [], ◌∷◌, length, take, drop, Option, Some, None, Result, Bool, true}
use Rattle.std.specs.Prelude.{false, ◌||◌, ◌==◌, nat_lt, if◌then◌else◌}
use Rattle.std.specs.Option.{option_map, option_map_or}
use Rattle.parsing.specs.Options as options
use Rattle.parsing.specs.Options.{◌>>=◌}
use Rattle.const_pool.specs.declared.descriptor.BaseType.{BaseType}
use Rattle.const_pool.specs.declared.descriptor.BaseType.TheVariants as base
use Rattle.const_pool.specs.declared.descriptor.ElementType.{ElementType}
use Rattle.const_pool.specs.declared.descriptor.ElementType.TheVariants as element
use Rattle.const_pool.specs.declared.descriptor.FieldType.{FieldType}
use Rattle.const_pool.specs.declared.descriptor.Descriptor.{Descriptor}
use Rattle.const_pool.specs.declared.descriptor.Descriptor.TheVariants as descriptor
use Rattle.const_pool.specs.declared.descriptor.DescriptorRefusal.{DescriptorRefusal}
use Rattle.const_pool.specs.declared.descriptor.DescriptorRefusal.TheVariants as refusal

-- what a call gave is what is read, unless memory ran out
abbrev pub Gives : {A B : Type 0} → (A → B) → Result A DescriptorRefusal → Option B → Type 0
Gives view result read = options.Gives refusal.OutOfMemory view result read

-- Whether a part of a class name begins after this byte of the name, where it is one. A part begins at the
-- byte where `fresh` says so, and then it has no byte yet.
abbrev pub after_byte : Bool → ℕ → Option Bool
after_byte fresh b =
    if b == 47 then (if fresh then None else Some true)
    else (if b == 46 || (b == 59 || b == 91) then None else Some false)

-- the length of the class name in front of the first ; where a class name stands there
unfoldable pub name_len : Bool → List ℕ → Option ℕ
name_len fresh [] = None
name_len fresh (b ∷ rest) = if b == 59 then (if fresh then None else Some 0) else (do
  next ← after_byte fresh b
  option_map suc (name_len next rest))

abbrev pub base_of : ℕ → Option BaseType
base_of b =
    if b == 66 then Some base.Byte
    else (if b == 67 then Some base.Char
    else (if b == 73 then Some base.Int
    else (if b == 74 then Some base.Long
    else (if b == 83 then Some base.Short
    else (if b == 90 then Some base.Boolean
    else None)))))

-- a class name and the ; after it
unfoldable pub class_at : List ℕ → Option (ElementType × List ℕ)
class_at bytes = do
  len ← name_len true bytes
  Some (element.Class (take len bytes), drop (len + 1) bytes)

-- the bytes after a byte that stands at the front
unfoldable pub after_front : ℕ → List ℕ → Option (List ℕ)
after_front byte [] = None
after_front byte (b ∷ rest) = if b == byte then Some rest else None

unfoldable pub base_at : List ℕ → Option (ElementType × List ℕ)
base_at [] = None
base_at (b ∷ rest) = option_map (λ t. (element.Base t, rest)) (base_of b)

unfoldable pub element_at : List ℕ → Option (ElementType × List ℕ)
element_at bytes = option_map_or class_at (after_front 76 bytes) (base_at bytes)

-- how many [ stand at the front
unfoldable pub brackets : List ℕ → ℕ
brackets [] = 0
brackets (b ∷ rest) = if b == 91 then brackets rest + 1 else 0

unfoldable pub field_at : List ℕ → Option (FieldType × List ℕ)
field_at bytes = do
  t ← if nat_lt 255 (brackets bytes) then None else element_at (drop (brackets bytes) bytes)
  Some (record { dimensions = brackets bytes; element = t.0 }, t.1)

-- the field types up to the closing parenthesis, in at most so many steps, and the bytes after it
unfoldable pub parameters_at : ℕ → List ℕ → Option (List FieldType × List ℕ)
parameters_at zero bytes = None
parameters_at (suc steps) bytes = option_map_or (λ rest. Some ([], rest)) (after_front 41 bytes) (do
  first ← field_at bytes
  others ← parameters_at steps first.1
  Some (first.0 ∷ others.0, others.1))

-- a field type that is all of the bytes
unfoldable pub only_field : List ℕ → Option FieldType
only_field bytes = do
  t ← field_at bytes
  if length t.1 == 0 then Some t.0 else None

abbrev pub is_void : List ℕ → Bool
is_void (b ∷ []) = b == 86
is_void _ = false

unfoldable pub result_at : List ℕ → Option (Option FieldType)
result_at bytes = if is_void bytes then Some None else option_map (λ t. Some t) (only_field bytes)

unfoldable pub method_at : List ℕ → Option Descriptor
method_at bytes = do
  parameters ← parameters_at (length bytes) bytes
  result ← result_at parameters.1
  Some (descriptor.Method parameters.0 result)

-- the descriptor that is all of the bytes
unfoldable pub descriptor_at : List ℕ → Option Descriptor
descriptor_at bytes =
    option_map_or method_at (after_front 40 bytes) (option_map (λ t. descriptor.Field t) (only_field bytes))
