-- Where each part of an image lies, version 1 of the layout: this project's own format. An image is lines of eight words of 64 bits:
--   line 0                the superblock
--   lines 1 to 32         256 root slots, a word each
--   lines 33 to 4,128     the directory, 32,768 words
--   lines 4,129 to 20,576 64 logs of 257 lines: a head, and 1,024 entries of two words
--   from line 20,577      objects, each at a line's start
use Rattle.std.specs.Prelude.{◌≡◌, ℕ, ◌+◌, ◌*◌, ◌/◌, ◌%◌, ◌^◌, Bool, true, false, ◌&&◌, ◌==◌, nat_le, Option, None, Some}
use Rattle.std.specs.Prelude.{IsTrue, if◌then◌else◌}
use Rattle.image_layout.specs.declared.superblock.BadReason.{BadReason}
use Rattle.image_layout.specs.declared.superblock.BadReason.TheVariants.{Size, Magic, Version, LineCount, DirectoryUse}
use Rattle.image_layout.specs.declared.superblock.Super.{Super}
use Rattle.image_layout.specs.declared.superblock.Super.TheVariants.{Blank, Used}

-- the numbers of the table

abbrev pub root_slots : ℕ
root_slots = 256

abbrev pub directory_words : ℕ
directory_words = 32768

abbrev pub logs : ℕ
logs = 64

abbrev pub log_entries : ℕ
log_entries = 1024

abbrev pub first_object_line : ℕ
first_object_line = 20577

abbrev pub min_lines : ℕ
min_lines = 32768

abbrev pub max_lines : ℕ
max_lines = 4194304

-- the word of the bytes AUTOPERS, the first byte the lowest
abbrev pub magic : ℕ
magic = 0x5352_4550_4F54_5541

abbrev pub version : ℕ
version = 1

-- line, and word in the line, of a root slot
abbrev pub slot_line : ℕ → ℕ
slot_line r = 1 + r / 8

abbrev pub slot_word : ℕ → ℕ
slot_word r = r % 8

-- of a word of the directory
abbrev pub directory_line : ℕ → ℕ
directory_line i = 33 + i / 8

abbrev pub directory_word : ℕ → ℕ
directory_word i = i % 8

-- the head line of a log, whose word 0 counts the entries
abbrev pub log_head_line : ℕ → ℕ
log_head_line t = 4129 + 257 * t

-- of the first of an entry's two words: the place, and the old word
abbrev pub log_entry_line : ℕ → ℕ → ℕ
log_entry_line t n = log_head_line t + 1 + n / 4

abbrev pub log_entry_word : ℕ → ℕ
log_entry_word n = 2 * (n % 4)

-- the lines of an object with n slots: 1 + n words, eight a line, rounded up
abbrev pub lines_of : ℕ → ℕ
lines_of n = (1 + n + 7) / 8

-- of slot i of the object that begins at line l: its words are the head, and then the slots
abbrev pub object_line : ℕ → ℕ → ℕ
object_line l i = l + (i + 1) / 8

abbrev pub object_word : ℕ → ℕ
object_word i = (i + 1) % 8

-- the head of an object: its shape's number, and above 32 bits the number of its slots
abbrev pub head_of : ℕ → ℕ → ℕ
head_of shape length = shape + 2 ^ 32 * length

-- A superblock is told by its words: `line w` is word w of line 0. It is one of an image of so many lines.

abbrev pub has_size : ℕ → Bool
has_size lines = nat_le min_lines lines && nat_le lines max_lines

-- no layout is written yet
abbrev pub IsBlank : (ℕ → ℕ) → ℕ → Type 0
IsBlank line lines = IsTrue (has_size lines) × (line 0 ≡ 0)

-- the reason where a test fails, and otherwise what the tests after it give
abbrev pub checked : Bool → BadReason → Option BadReason → Option BadReason
checked true reason later = later
checked false reason later = Some reason

-- the first test of a superblock in use that fails
abbrev pub used_check : (ℕ → ℕ) → ℕ → Option BadReason
used_check line lines =
    checked (line 0 == magic) Magic
    (checked (line 1 == version) Version
    (checked (line 2 == lines) LineCount
    (checked (nat_le (line 3) directory_words) DirectoryUse None)))

-- the first test that fails: of the size, and then, unless the image is blank, of the superblock
abbrev pub super_check : (ℕ → ℕ) → ℕ → Option BadReason
super_check line lines =
    checked (has_size lines) Size (if line 0 == 0 then None else used_check line lines)

-- what a superblock says whose tests hold
abbrev pub super_of : (ℕ → ℕ) → Super
super_of line = if line 0 == 0 then Blank else Used (line 1) (line 3)
