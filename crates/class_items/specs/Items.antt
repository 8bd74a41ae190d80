-- The items of class files (JVMS 4.1, 4.7): how each is read, and its bytes.
use Rattle.std.specs.Prelude.{ℕ, List, ◌++◌, length, Result, Ok, Err, Some, if◌then◌else◌}
use Rattle.std.specs.List.{flat_map}
use Rattle.byteorder.specs.Endian.{big_bytes}
use Rattle.parsing.specs.declared.cut.Cut.{Cut}
use Rattle.parsing.specs.Results as results
use Rattle.parsing.specs.Results.{◌>>=◌, placed, many_from}
use Rattle.parsing.specs.Places as places
use Rattle.parsing.specs.Places.{Place}
use Rattle.const_pool.specs.declared.entry.Tag.{Tag}
use Rattle.const_pool.specs.declared.entry.Tag.TheVariants.{Utf8}
use Rattle.const_pool.specs.Pool.{Slots, entry_at, is_tagged}
use Rattle.class_items.specs.declared.attribute.Attribute.{Attribute}
use Rattle.class_items.specs.declared.refusal.ItemRefusal.{ItemRefusal}
use Rattle.class_items.specs.declared.refusal.ItemRefusal.TheVariants.{Truncated, BadIndex, OutOfMemory}

-- what a call gave is what reading gives, unless memory ran out
abbrev pub Gives : {A B : Type 0} → (A → B) → Result A ItemRefusal → Result B ItemRefusal → Type 0
Gives view result read = results.Gives (Some OutOfMemory) view result read

-- the refusal of a field that is cut off
abbrev pub of_cut : Cut → ItemRefusal
of_cut cut = Truncated cut.at

-- ---- reading

-- a field of n bytes, and the file after it
abbrev pub field_at : ℕ → Place → Result (List ℕ × Place) ItemRefusal
field_at n file = placed of_cut (places.field_at n file)

-- a number of n bytes, the highest first
abbrev pub number_at : ℕ → Place → Result (ℕ × Place) ItemRefusal
number_at n file = placed of_cut (places.number_at n file)

-- an index that names an entry of this kind
unfoldable pub index_at : Slots → Tag → Place → Result (ℕ × Place) ItemRefusal
index_at pool tag file = do
  index ← number_at 2 file
  if is_tagged (entry_at pool index.0) tag then Ok index else Err (BadIndex file.0 index.0)

-- an attribute: its name, a length, and so many bytes (JVMS 4.7)
unfoldable pub attribute_at : Slots → Place → Result (Attribute × Place) ItemRefusal
attribute_at pool file = do
  name ← index_at pool Utf8 file
  size ← number_at 4 name.1
  content ← field_at size.0 size.1
  Ok (record { name = name.0; content = content.0 }, content.1)

-- a count, and so many attributes
unfoldable pub attributes_at : Slots → Place → Result (List Attribute × Place) ItemRefusal
attributes_at pool file = do
  count ← number_at 2 file
  many_from (attribute_at pool) count.0 count.1

-- ---- bytes

abbrev pub attribute_bytes : Attribute → List ℕ
attribute_bytes a = big_bytes 2 a.name ++ big_bytes 4 (length a.content) ++ a.content

abbrev pub attributes_bytes : List Attribute → List ℕ
attributes_bytes attributes = big_bytes 2 (length attributes) ++ flat_map attribute_bytes attributes
