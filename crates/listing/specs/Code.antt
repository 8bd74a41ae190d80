-- The bytes of instructions, of which the labels are known (JVMS 6.5).
use Rattle.std.specs.Prelude.{ℕ, ◌&&◌, not, nat_lt, Bool, ℤ, pos, negsuc, ◌-ℤ◌, int_le, List, [], ◌∷◌, ◌++◌, length, replicate}
use Rattle.std.specs.Prelude.{Result, Ok}
use Rattle.std.specs.Int.{w16, w32, cast_unsigned}
use Rattle.byteorder.specs.Endian.{big_bytes}
use Rattle.parsing.specs.Results.{◌>>=◌}
use Rattle.listing_lines.specs.declared.refusal.ListingFault.TheVariants.{FarJump, TooLarge}
use Rattle.listing_lines.specs.declared.refusal.LineRefusal.{LineRefusal}
use Rattle.listing_lines.specs.declared.lines.Instruction.{Instruction}
use Rattle.listing_lines.specs.declared.lines.Instruction.TheVariants as instruction
use Rattle.listing_lines.specs.declared.lines.KeyLabel.{KeyLabel}
use Rattle.listing_lines.specs.declared.lines.Wanted.{Wanted}
use Rattle.listing_lines.specs.declared.lines.MemberName.{MemberName}
use Rattle.listing_lines.specs.Reading.{unless}
use Rattle.listing.specs.declared.marks.Mark.{Mark}
use Rattle.listing.specs.Labels.{padding, target}
use Rattle.listing.specs.Pool.{Entries, with_member, with_wanted}

abbrev pub Bytes : Type 0
Bytes = Result (List ℕ) LineRefusal

-- how far a target is from the jump
abbrev pub offset : (pc target : ℕ) → ℤ
offset pc target = pos target -ℤ pos pc

abbrev pub is_near : ℤ → Bool
is_near z = int_le (negsuc 32767) z && int_le z (pos 32767)

-- an offset in two bytes
unfoldable pub near_offset : (marks : List Mark) → (size pc : ℕ) → List ℕ → Bytes
near_offset marks size pc label = do
  to ← target marks size label
  near ← unless (not (is_near (offset pc to))) FarJump
  Ok (big_bytes 2 (cast_unsigned w16 (offset pc to)))

-- an offset in four bytes
unfoldable pub far_offset : (marks : List Mark) → (size pc : ℕ) → List ℕ → Bytes
far_offset marks size pc label = do
  to ← target marks size label
  Ok (big_bytes 4 (cast_unsigned w32 (offset pc to)))

unfoldable pub offsets : (marks : List Mark) → (size pc : ℕ) → List (List ℕ) → Bytes
offsets marks size pc [] = Ok []
offsets marks size pc (label ∷ labels) = do
  first ← far_offset marks size pc label
  others ← offsets marks size pc labels
  Ok (first ++ others)

unfoldable pub cases : (marks : List Mark) → (size pc : ℕ) → List KeyLabel → Bytes
cases marks size pc [] = Ok []
cases marks size pc (first ∷ rest) = do
  to ← far_offset marks size pc first.label
  others ← cases marks size pc rest
  Ok (big_bytes 4 (cast_unsigned w32 first.key) ++ to ++ others)

-- JVMS 6.5, tableswitch
unfoldable pub table_bytes : (marks : List Mark) → (size pc : ℕ) → (low high : ℤ) → (default : List ℕ)
    → (labels : List (List ℕ)) → Bytes
table_bytes marks size pc low high default labels = do
  otherwise ← far_offset marks size pc default
  each ← offsets marks size pc labels
  Ok (170 ∷ replicate (padding pc) 0 ++ otherwise ++ big_bytes 4 (cast_unsigned w32 low)
      ++ big_bytes 4 (cast_unsigned w32 high) ++ each)

-- JVMS 6.5, lookupswitch
unfoldable pub lookup_bytes : (marks : List Mark) → (size pc : ℕ) → (default : List ℕ)
    → (pairs : List KeyLabel) → Bytes
lookup_bytes marks size pc default pairs = do
  few ← unless (nat_lt 65535 (length pairs)) TooLarge
  otherwise ← far_offset marks size pc default
  each ← cases marks size pc pairs
  Ok (171 ∷ replicate (padding pc) 0 ++ otherwise ++ big_bytes 4 (length pairs) ++ each)

abbrev pub jump_bytes : (marks : List Mark) → (size pc opcode : ℕ) → List ℕ → Bytes
jump_bytes marks size pc opcode label = near_offset marks size pc label >>= λ found. Ok (opcode ∷ found)

abbrev pub kept : Entries → Bytes → Result (List ℕ × Entries) LineRefusal
kept entries bytes = bytes >>= λ found. Ok (found, entries)

abbrev pub with_index : (opcode index : ℕ) → (behind : List ℕ) → List ℕ
with_index opcode index behind = opcode ∷ big_bytes 2 index ++ behind

unfoldable pub entry_bytes : (opcode : ℕ) → Wanted → Entries → Result (List ℕ × Entries) LineRefusal
entry_bytes opcode entry entries = do
  index ← with_wanted entry entries
  Ok (with_index opcode index.0 [], index.1)

-- JVMS 6.5, invokeinterface: the count byte, and a zero
unfoldable pub interface_bytes : MemberName → (count : ℕ) → Entries → Result (List ℕ × Entries) LineRefusal
interface_bytes m count entries = do
  index ← with_member m entries
  Ok (with_index 185 index.0 (count ∷ 0 ∷ []), index.1)

-- the bytes of an instruction at a place of its code, and the entries of the constant pool with its own
abbrev pub instruction_bytes : (marks : List Mark) → (size pc : ℕ) → Instruction → Entries
    → Result (List ℕ × Entries) LineRefusal
instruction_bytes marks size pc (instruction.Whole bytes) entries = Ok (bytes, entries)
instruction_bytes marks size pc (instruction.Jump opcode label) entries =
    kept entries (jump_bytes marks size pc opcode label)
instruction_bytes marks size pc (instruction.Table low high default labels) entries =
    kept entries (table_bytes marks size pc low high default labels)
instruction_bytes marks size pc (instruction.Lookup default pairs) entries =
    kept entries (lookup_bytes marks size pc default pairs)
instruction_bytes marks size pc (instruction.Entry opcode entry) entries = entry_bytes opcode entry entries
instruction_bytes marks size pc (instruction.Interface m count) entries = interface_bytes m count entries
