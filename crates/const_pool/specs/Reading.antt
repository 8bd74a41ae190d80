-- Reading a constant pool from front to back, with the first fault that is met.
use Rattle.std.specs.Prelude.{ℕ, zero, suc, ◌+◌, ◌-◌, List, [], ◌∷◌, drop, Option, Some, None, Result, Ok, Err, Bool, true}
use Rattle.std.specs.Prelude.{false, ◌&&◌, ◌==◌, if◌then◌else◌}
use Rattle.std.specs.Int.{w32, w64, cast_signed}
use Rattle.parsing.specs.declared.cut.Cut.{Cut}
use Rattle.parsing.specs.Results as results
use Rattle.parsing.specs.Results.{◌>>=◌, placed, unless_found}
use Rattle.parsing.specs.Places.{field_at, number_at}
use Rattle.parsing.specs.Places.{Place}
use Rattle.const_pool.specs.declared.refusal.PoolRefusal.{PoolRefusal}
use Rattle.const_pool.specs.declared.refusal.PoolRefusal.TheVariants.{Truncated, BadTag, BadIndex, BadUtf8, OutOfMemory}
use Rattle.const_pool.specs.declared.entry.Tag.{Tag}
use Rattle.const_pool.specs.declared.entry.Tag.TheVariants as tag
use Rattle.const_pool.specs.declared.entry.Member.{Member}
use Rattle.const_pool.specs.declared.entry.Entry.{Entry}
use Rattle.const_pool.specs.declared.entry.Entry.TheVariants as entry
use Rattle.const_pool.specs.Utf8.{bad_place}
use Rattle.const_pool.specs.Entry.{tag_of, tag_with, is_wide}
use Rattle.const_pool.specs.Pool.{Slots, entry_at, is_tagged, references_in}

-- what a call gave is what reading gives, unless memory ran out
abbrev pub Gives : {A B : Type 0} → (A → B) → Result A PoolRefusal → Result B PoolRefusal → Type 0
Gives view result read = results.Gives (Some OutOfMemory) view result read

-- ---- fields

-- the refusal of a field that is cut off
abbrev pub of_cut : Cut → PoolRefusal
of_cut cut = Truncated cut.at

-- a field of n bytes, and the file after it
abbrev pub field_from : ℕ → Place → Result (List ℕ × Place) PoolRefusal
field_from n file = placed of_cut (field_at n file)

-- a number of n bytes, the highest first
abbrev pub number_from : ℕ → Place → Result (ℕ × Place) PoolRefusal
number_from n file = placed of_cut (number_at n file)

-- a length and a text of that many bytes
unfoldable pub name_from : Place → Result (List ℕ × Place) PoolRefusal
name_from file = do
  len ← number_from 2 file
  text ← field_from len.0 len.1
  good ← unless_found (bad_place 0 0 text.0) (λ place. BadUtf8 (len.1.0 + place))
  Ok text

unfoldable pub member_from : Place → Result (Member × Place) PoolRefusal
member_from file = do
  class ← number_from 2 file
  name_and_type ← number_from 2 class.1
  Ok (record { class = class.0; name_and_type = name_and_type.0 }, name_and_type.1)

-- ---- entries

-- what follows the tag
unfoldable pub body_from : Tag → Place → Result (Entry × Place) PoolRefusal
body_from tag.Utf8 file = do
  name ← name_from file
  Ok (entry.Utf8 name.0, name.1)
body_from tag.Integer file = do
  number ← number_from 4 file
  Ok (entry.Integer (cast_signed w32 number.0), number.1)
body_from tag.Float file = do
  number ← number_from 4 file
  Ok (entry.Float number.0, number.1)
body_from tag.Long file = do
  number ← number_from 8 file
  Ok (entry.Long (cast_signed w64 number.0), number.1)
body_from tag.Double file = do
  number ← number_from 8 file
  Ok (entry.Double number.0, number.1)
body_from tag.Class file = do
  name ← number_from 2 file
  Ok (entry.Class name.0, name.1)
body_from tag.String file = do
  text ← number_from 2 file
  Ok (entry.String text.0, text.1)
body_from tag.Fieldref file = do
  member ← member_from file
  Ok (entry.Fieldref member.0, member.1)
body_from tag.Methodref file = do
  member ← member_from file
  Ok (entry.Methodref member.0, member.1)
body_from tag.InterfaceMethodref file = do
  member ← member_from file
  Ok (entry.InterfaceMethodref member.0, member.1)
body_from tag.NameAndType file = do
  name ← number_from 2 file
  descriptor ← number_from 2 name.1
  Ok (entry.NameAndType name.0 descriptor.0, descriptor.1)
body_from tag.MethodHandle file = do
  bytes ← field_from 3 file
  Ok (entry.MethodHandle bytes.0, bytes.1)
body_from tag.MethodType file = do
  bytes ← field_from 2 file
  Ok (entry.MethodType bytes.0, bytes.1)
body_from tag.InvokeDynamic file = do
  bytes ← field_from 4 file
  Ok (entry.InvokeDynamic bytes.0, bytes.1)

abbrev pub or_bad_tag : ℕ → Option Tag → Result Tag PoolRefusal
or_bad_tag at None = Err (BadTag at)
or_bad_tag at (Some t) = Ok t

-- A tag. One whose entry takes two indices is refused where the second passes the count: nothing that
-- could follow it would make a pool.
unfoldable pub tag_from : (index count : ℕ) → Place → Result (Tag × Place) PoolRefusal
tag_from index count file = do
  byte ← number_from 1 file
  t ← or_bad_tag file.0 (tag_with byte.0)
  if is_wide t && index + 1 == count then Err (BadIndex index (index + 1)) else Ok (t, byte.1)

-- the entry at an index
unfoldable pub entry_from : (index count : ℕ) → Place → Result (Entry × Place) PoolRefusal
entry_from index count file = do
  t ← tag_from index count file
  body_from t.0 t.1

-- The last `left` slots of a count. The first of them is taken by the entry before where `taken` says so.
unfoldable pub slots_from : Bool → (left count : ℕ) → Place → Result (Slots × Place) PoolRefusal
slots_from taken zero count file = Ok ([], file)
slots_from true (suc left) count file = do
  others ← slots_from false left count file
  Ok (None ∷ others.0, others.1)
slots_from false (suc left) count file = do
  first ← entry_from (count - suc left) count file
  others ← slots_from (is_wide (tag_of first.0)) left count first.1
  Ok (Some first.0 ∷ others.0, others.1)

-- ---- references

-- the first index that names no entry of its kind
abbrev pub first_wrong : Slots → List (ℕ × Tag) → Option ℕ
first_wrong slots [] = None
first_wrong slots (r ∷ rs) = if is_tagged (entry_at slots r.0) r.1 then first_wrong slots rs else Some r.0

abbrev pub or_else : {A : Type 0} → Option A → Option A → Option A
or_else None other = other
or_else (Some x) other = Some x

abbrev pub with_index : ℕ → Option ℕ → Option (ℕ × ℕ)
with_index index None = None
with_index index (Some wrong) = Some (index, wrong)

-- the first slot, from an index on, with such an index, and that index
unfoldable pub wrong_from : Slots → ℕ → Slots → Option (ℕ × ℕ)
wrong_from slots index [] = None
wrong_from slots index (slot ∷ more) =
    or_else (with_index index (first_wrong slots (references_in slot))) (wrong_from slots (index + 1) more)

-- ---- the pool

-- the slots of a count, of which index 0 is none
unfoldable pub counted_slots : ℕ → Place → Result (Slots × Place) PoolRefusal
counted_slots zero file = Err (BadIndex 0 0)
counted_slots (suc left) file = slots_from true (suc left) (suc left) file

-- a file's pool, which begins at byte 8, and the offset after it
unfoldable pub pool_in : List ℕ → Result (Slots × ℕ) PoolRefusal
pool_in bytes = do
  count ← number_from 2 (8, drop 8 bytes)
  slots ← counted_slots count.0 count.1
  good ← unless_found (wrong_from slots.0 0 slots.0) (λ w. BadIndex w.0 w.1)
  Ok (slots.0, slots.1.0)
