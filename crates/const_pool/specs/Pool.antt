-- A constant pool as a list of slots, one for each index from 0 on: an entry, or none where the index is 0 or
-- the second of an entry before (JVMS 4.4, 4.4.5).
use Rattle.std.specs.Prelude.{ℕ, ◌^◌, ◌<◌, ◌==◌, Bool, true, false, IsTrue, List, [], ◌∷◌, ◌++◌, length, Option, Some, None}
use Rattle.std.specs.Prelude.{slice_index_or, if◌then◌else◌}
use Rattle.std.specs.List.{flat_map, AllByRecursion}
use Rattle.byteorder.specs.Endian.{big_bytes}
use Rattle.const_pool.specs.declared.entry.Tag.{Tag}
use Rattle.const_pool.specs.declared.entry.Member.{Member}
use Rattle.const_pool.specs.declared.entry.Entry.{Entry}
use Rattle.const_pool.specs.declared.entry.Entry.TheVariants as entry
use Rattle.const_pool.specs.Entry.{tag_byte, tag_of, is_wide, entry_bytes, references, Fits}

abbrev pub Slots : Type 0
Slots = List (Option Entry)

-- the slots that an entry takes
abbrev pub slots_of : Entry → Slots
slots_of e = if is_wide (tag_of e) then Some e ∷ None ∷ [] else Some e ∷ []

-- The slots follow one another, each entry in as many as it takes. The first one is taken by what stands
-- before them where `taken` says so.
abbrev pub AreSlots : Bool → Slots → Type 0
AreSlots true [] = ⊥
AreSlots false [] = Unit {0}
AreSlots true (None ∷ slots) = AreSlots false slots
AreSlots true (Some e ∷ slots) = ⊥
AreSlots false (None ∷ slots) = ⊥
AreSlots false (Some e ∷ slots) = Fits e × AreSlots (is_wide (tag_of e)) slots

-- ---- references

-- the entry at an index, where there is one
abbrev pub entry_at : Slots → ℕ → Option Entry
entry_at slots index = slice_index_or slots index None

abbrev pub is_tagged : Option Entry → Tag → Bool
is_tagged None tag = false
is_tagged (Some e) tag = tag_byte (tag_of e) == tag_byte tag

-- an index and a kind name an entry
abbrev pub Names : Slots → ℕ × Tag → Type 0
Names slots r = IsTrue (is_tagged (entry_at slots r.0) r.1)

abbrev pub references_in : Option Entry → List (ℕ × Tag)
references_in None = []
references_in (Some e) = references e

-- all that the slot names is there
abbrev pub Refers : Slots → Option Entry → Type 0
Refers slots slot = AllByRecursion (Names slots) (references_in slot)

-- ---- pools

-- The pools of class files: index 0 is no entry's, and each reference is to an entry of its kind.
pub record IsPool (pool : Slots) : Type 0 where
  pub count : length pool < 2 ^ 16
  pub slots : AreSlots true pool
  pub named : AllByRecursion (Refers pool) pool

abbrev pub FitsSlot : Option Entry → Type 0
FitsSlot None = Unit {0}
FitsSlot (Some e) = Fits e

abbrev pub slot_bytes : Option Entry → List ℕ
slot_bytes None = []
slot_bytes (Some e) = entry_bytes e

-- the bytes of a pool: the count of its slots, and its entries in order
abbrev pub spelling : Slots → List ℕ
spelling slots = big_bytes 2 (length slots) ++ flat_map slot_bytes slots

-- ---- lookups: what stands at an index, where an entry of the kind does

abbrev pub text_of : Option Entry → Option (List ℕ)
text_of (Some (entry.Utf8 name)) = Some name
text_of _ = None

abbrev pub utf8_at : Slots → ℕ → Option (List ℕ)
utf8_at slots index = text_of (entry_at slots index)

abbrev pub class_name_of : Slots → Option Entry → Option (List ℕ)
class_name_of slots (Some (entry.Class name)) = utf8_at slots name
class_name_of slots _ = None

abbrev pub class_name_at : Slots → ℕ → Option (List ℕ)
class_name_at slots index = class_name_of slots (entry_at slots index)

abbrev pub string_of : Slots → Option Entry → Option (List ℕ)
string_of slots (Some (entry.String text)) = utf8_at slots text
string_of slots _ = None

abbrev pub string_at : Slots → ℕ → Option (List ℕ)
string_at slots index = string_of slots (entry_at slots index)

abbrev pub both : {A B : Type 0} → Option A → Option B → Option (A × B)
both (Some x) (Some y) = Some (x, y)
both (Some x) None = None
both None other = None

abbrev pub name_and_type_of : Slots → Option Entry → Option (List ℕ × List ℕ)
name_and_type_of slots (Some (entry.NameAndType name descriptor)) =
    both (utf8_at slots name) (utf8_at slots descriptor)
name_and_type_of slots _ = None

abbrev pub name_and_type_at : Slots → ℕ → Option (List ℕ × List ℕ)
name_and_type_at slots index = name_and_type_of slots (entry_at slots index)

abbrev pub member_of : Option Entry → Option Member
member_of (Some (entry.Fieldref m)) = Some m
member_of (Some (entry.Methodref m)) = Some m
member_of (Some (entry.InterfaceMethodref m)) = Some m
member_of _ = None

abbrev pub member_at : Slots → ℕ → Option Member
member_at slots index = member_of (entry_at slots index)
