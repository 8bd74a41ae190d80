-- Class files, read from front to back with the first fault that is met, and their bytes (JVMS 4.1).
use Rattle.std.specs.Prelude.{◌≡◌, ◌≤◌, ℕ, ◌==◌, ◌&&◌, ◌||◌, not, nat_lt, Bool, false, List, ◌++◌, length, drop, Option, Some, None}
use Rattle.std.specs.Prelude.{Result, Ok}
use Rattle.std.specs.List.{flat_map, list_any}
use Rattle.byteorder.specs.Endian.{big_bytes}
use Rattle.const_pool.specs.declared.entry.Tag.TheVariants.{Class}
use Rattle.parsing.specs.Bytes.{IsBytes}
use Rattle.const_pool.specs.Pool.{Slots, spelling, class_name_at}
use Rattle.parsing.specs.Places.{Place}
use Rattle.const_pool.specs.Reading.{pool_in}
use Rattle.parsing.specs.Results.{◌>>=◌, placed, many_from, unless}
use Rattle.class_items.specs.Items.{attributes_at, attributes_bytes}
use Rattle.class_file.specs.declared.class.ClassFile.{ClassFile}
use Rattle.class_file.specs.declared.refusal.ClassRefusal.{ClassRefusal}
use Rattle.class_file.specs.declared.refusal.ClassRefusal.TheVariants as refusal
use Rattle.class_file.specs.Refusals.{of_item, of_pool}
use Rattle.class_file.specs.Members.{number, index, fields_at, methods_at, field_bytes, method_bytes}

-- CAFEBABE
abbrev pub magic : ℕ
magic = 0xCAFEBABE

-- the magic and version 52.0
unfoldable pub head_at : Place → Result Place ClassRefusal
head_at file = do
  first ← number 4 file
  right ← unless (not (first.0 == magic)) refusal.BadMagic
  minor ← number 2 first.1
  major ← number 2 minor.1
  known ← unless (not (major.0 == 52 && minor.0 == 0)) (refusal.BadVersion major.0 minor.0)
  Ok major.1

-- . ; and [
abbrev pub is_barred : ℕ → Bool
is_barred b = (b == 46) || ((b == 59) || (b == 91))

abbrev pub is_misnamed : Option (List ℕ) → Bool
is_misnamed None = false
is_misnamed (Some name) = list_any is_barred name

-- the class's own entry
unfoldable pub this_at : Slots → Place → Result (ℕ × Place) ClassRefusal
this_at pool file = do
  this ← index pool Class file
  spelled ← unless (is_misnamed (class_name_at pool this.0)) (refusal.BadIndex file.0 this.0)
  Ok this

unfoldable pub interfaces_at : Slots → Place → Result (List ℕ × Place) ClassRefusal
interfaces_at pool file = do
  count ← number 2 file
  many_from (index pool Class) count.0 count.1

-- what stands behind the pool, up to the file's end
unfoldable pub behind_at : Slots → Place → Result ClassFile ClassRefusal
behind_at pool file = do
  access ← number 2 file
  this ← this_at pool access.1
  super ← index pool Class this.1
  interfaces ← interfaces_at pool super.1
  fields ← fields_at pool interfaces.1
  methods ← methods_at pool fields.1
  attributes ← placed of_item (attributes_at pool methods.1)
  ended ← unless (nat_lt 0 (length attributes.1.1)) (refusal.TrailingBytes attributes.1.0)
  Ok (record {
    pool = pool;
    access = access.0;
    this_class = this.0;
    super_class = super.0;
    interfaces = interfaces.0;
    fields = fields.0;
    methods = methods.0;
    attributes = attributes.0;
  })

-- The class file that these bytes are, or the first fault.
unfoldable pub class_in : List ℕ → Result ClassFile ClassRefusal
class_in bytes = do
  head ← head_at (0, bytes)
  pool ← placed of_pool (pool_in bytes)
  behind_at pool.0 (pool.1, drop pool.1 bytes)

-- ---- bytes

abbrev pub head_bytes : List ℕ
head_bytes = big_bytes 4 magic ++ big_bytes 2 0 ++ big_bytes 2 52

abbrev pub class_bytes : ClassFile → List ℕ
class_bytes c =
    head_bytes ++ spelling c.pool
    ++ big_bytes 2 c.access ++ big_bytes 2 c.this_class ++ big_bytes 2 c.super_class
    ++ big_bytes 2 (length c.interfaces) ++ flat_map (big_bytes 2) c.interfaces
    ++ big_bytes 2 (length c.fields) ++ flat_map field_bytes c.fields
    ++ big_bytes 2 (length c.methods) ++ flat_map method_bytes c.methods
    ++ attributes_bytes c.attributes

-- its bytes are at most so many
abbrev pub HasAtMost : (most : ℕ) → ClassFile → Type 0
HasAtMost most c = length (class_bytes c) ≤ most

-- some bytes are this class file
pub record CanBeRead (c : ClassFile) : Type 0 where
  pub bytes : List ℕ
  pub are_bytes : IsBytes bytes
  pub read : class_in bytes ≡ Ok c
