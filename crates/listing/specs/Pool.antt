-- A constant pool under construction: its entries in order, each by its bytes. An entry is added at its
-- first need, its parts before it, and equal ones once (JVMS 4.4).
use Rattle.std.specs.Prelude.{ℕ, ◌+◌, ◌==◌, nat_lt, List, [], ◌∷◌, ◌++◌, length, Option, Some, None, Result, Ok, Err}
use Rattle.std.specs.Prelude.{if◌then◌else◌, sum_by}
use Rattle.std.specs.Int.{w32, w64, cast_unsigned}
use Rattle.std.specs.Str.{bytes_eq}
use Rattle.byteorder.specs.Endian.{big_bytes}
use Rattle.parsing.specs.Results.{◌>>=◌}
use Rattle.listing_lines.specs.declared.refusal.ListingFault.TheVariants.{TooLarge}
use Rattle.listing_lines.specs.declared.refusal.LineRefusal.{LineRefusal}
use Rattle.listing_lines.specs.declared.refusal.LineRefusal.TheVariants as refusal
use Rattle.listing_lines.specs.declared.lines.MemberKind.{MemberKind}
use Rattle.listing_lines.specs.declared.lines.MemberKind.TheVariants as member
use Rattle.listing_lines.specs.declared.lines.MemberName.{MemberName}
use Rattle.listing_lines.specs.declared.lines.Wanted.{Wanted}
use Rattle.listing_lines.specs.declared.lines.Wanted.TheVariants as wanted

abbrev pub Entries : Type 0
Entries = List (List ℕ)

-- a Long, of tag 5, takes two indices (JVMS 4.4.5)
abbrev pub width : List ℕ → ℕ
width [] = 1
width (tag ∷ body) = if tag == 5 then 2 else 1

-- the index of the next entry, which a class file has as constant_pool_count
abbrev pub free_index : Entries → ℕ
free_index entries = 1 + sum_by width entries

-- the index of an entry among those from an index on
unfoldable pub index_from : ℕ → Entries → List ℕ → Option ℕ
index_from index [] entry = None
index_from index (first ∷ rest) entry =
    if bytes_eq first entry then Some index else index_from (index + width first) rest entry

abbrev pub Read : Type 0
Read = Result (ℕ × Entries) LineRefusal

abbrev pub found_or_added : Option ℕ → List ℕ → Entries → Read
found_or_added (Some index) entry entries = Ok (index, entries)
found_or_added None entry entries =
    if nat_lt 65535 (free_index entries + width entry) then Err (refusal.Fault TooLarge)
    else Ok (free_index entries, entries ++ entry ∷ [])

-- the index of an entry, and the entries with it
unfoldable pub with_entry : List ℕ → Entries → Read
with_entry entry entries = found_or_added (index_from 1 entries entry) entry entries

unfoldable pub with_utf8 : List ℕ → Entries → Read
with_utf8 text entries =
    if nat_lt 65535 (length text) then Err (refusal.Fault TooLarge)
    else with_entry (1 ∷ big_bytes 2 (length text) ++ text) entries

-- a Class, of tag 7, or a String, of tag 8
unfoldable pub with_text : (tag : ℕ) → List ℕ → Entries → Read
with_text tag text entries = do
  utf8 ← with_utf8 text entries
  with_entry (tag ∷ big_bytes 2 utf8.0) utf8.1

unfoldable pub with_pair : (tag first second : ℕ) → Entries → Read
with_pair tag first second entries = with_entry (tag ∷ big_bytes 2 first ++ big_bytes 2 second) entries

unfoldable pub with_name_and_type : (name descriptor : List ℕ) → Entries → Read
with_name_and_type name descriptor entries = do
  first ← with_utf8 name entries
  second ← with_utf8 descriptor first.1
  with_pair 12 first.0 second.0 second.1

abbrev pub member_tag : MemberKind → ℕ
member_tag member.Field = 9
member_tag member.Method = 10
member_tag member.InterfaceMethod = 11

unfoldable pub with_member : MemberName → Entries → Read
with_member m entries = do
  class ← with_text 7 m.class entries
  name ← with_name_and_type m.name m.descriptor class.1
  with_pair (member_tag m.kind) class.0 name.0 name.1

abbrev pub with_wanted : Wanted → Entries → Read
with_wanted (wanted.Integer z) entries = with_entry (3 ∷ big_bytes 4 (cast_unsigned w32 z)) entries
with_wanted (wanted.Long z) entries = with_entry (5 ∷ big_bytes 8 (cast_unsigned w64 z)) entries
with_wanted (wanted.Text text) entries = with_text 8 text entries
with_wanted (wanted.Class name) entries = with_text 7 name entries
with_wanted (wanted.Member m) entries = with_member m entries
