-- Rows worked out by hand: superblocks, entries, logs, and the checks of small objects. Of this project's own format.
use Rattle.std.specs.Prelude.{◌<◌, ◌≤◌, ◌++◌, false, map, ◌≡◌, ℕ, ◌+◌, ◌*◌, ◌^◌, ◌==◌, true, negsuc, List, [], ◌∷◌, slice_index}
use Rattle.std.specs.Prelude.{codes, if◌then◌else◌, Option, Some, None, Ok, Err}
use Rattle.std.specs.List.{range_with_len}
use Rattle.ap_base.specs.declared.kind.Kind.TheVariants.{Z, B, C, I, J, L}
use Rattle.graph_model.specs.declared.types.Value.TheVariants.{Int, Long, Obj as Object}
use Rattle.graph_model.specs.declared.types.Shape.{Shape}
use Rattle.image_layout.specs.declared.superblock.BadReason.TheVariants as bad
use Rattle.image_layout.specs.Places.{magic, log_head_line}
use Rattle.image_meaning.specs.Checks.{Words, Bad, first_fault}
use Rattle.image_meaning.specs.Entries.{ShapeEntry, RootEntry, spelled, string_name, read_entry}
use Rattle.image_meaning.specs.Directories.{Directory, no_entries, is_refused, with_entries}
use Rattle.image_meaning.specs.Logs.{log_count, logged_at, entry_fault, log_fault, put_each}
use Rattle.image_meaning.specs.Objects.{value_of, word_fault, values_at, object_fault}
use Rattle.image_meaning.specs.Meaning.{root_fault, walk, empty_graph, meaning}
use Rattle.image_meaning.specs.Arrays.{int_array}

-- ---- words

-- the words of a line, or 0
abbrev pub line_words : ℕ → List ℕ → Words → Words
line_words at words others line word = if line == at then slice_index words word else others line word

abbrev pub nothing_there : Words
nothing_there line word = 0

-- ---- whole images

-- only the first four words of the superblock aren't 0
abbrev pub front : ℕ → ℕ → ℕ → ℕ → Words
front a b c d line word = if line == 0 then slice_index (a ∷ b ∷ c ∷ d ∷ []) word else 0

pub record SuperblockRows : Type 0 where
  pub too_few_lines : meaning 32767 (front 0 0 0 0) ≡ Err (0, bad.Size)
  pub too_many_lines : meaning 4194305 (front 0 0 0 0) ≡ Err (0, bad.Size)
  pub blank : meaning 32768 (front 0 7 7 7) ≡ Ok empty_graph
  pub other_magic : meaning 32768 (front 1 1 32768 0) ≡ Err (0, bad.Magic)
  pub other_version : meaning 32768 (front magic 2 32769 0) ≡ Err (0, bad.Version)
  pub other_lines : meaning 32768 (front magic 1 32769 32769) ≡ Err (0, bad.LineCount)
  pub too_many_words : meaning 32768 (front magic 1 32768 32769) ≡ Err (0, bad.DirectoryUse)
  pub no_entry : meaning 32768 (front magic 1 32768 1) ≡ Err (33, bad.Entry)
  pub no_entries : meaning 32768 (front magic 1 32768 0) ≡ Ok empty_graph

-- ---- entries

-- class N with the fields `int v` and `N n`
abbrev pub pair_shape : Shape
pair_shape = record {
  name = 78 ∷ [];
  fields =
      record { name = 118 ∷ []; kind = I; kept = true }
      ∷ record { name = 110 ∷ []; kind = L; kept = true }
      ∷ [];
  element = None;
}

abbrev pub pair_words : List ℕ
pair_words = (1 + 2 ^ 32 * 7) ∷ (1 + 2 ^ 32 * 2) ∷ 78 ∷ (73 + 2 ^ 32 * 1) ∷ 118 ∷ (76 + 2 ^ 32 * 1) ∷ 110 ∷ []

-- [I: 5B, 49
abbrev pub array_words : List ℕ
array_words = (1 + 2 ^ 32 * 3) ∷ 2 ∷ 0x495B ∷ []

abbrev pub string_shape : Shape
string_shape = record { name = codes "java/lang/String"; fields = []; element = Some C }

-- java/lang/String: an entry of so many words, with so many fields
abbrev pub string_words : ℕ → ℕ → List ℕ
string_words words fields = (1 + 2 ^ 32 * words) ∷ (16 + 2 ^ 32 * fields) ∷ 0x6E616C2F6176616A ∷ 0x676E697274532F67 ∷ []

-- the root Main.list: two words of name
abbrev pub root_words : List ℕ
root_words = (2 + 2 ^ 32 * 4) ∷ 9 ∷ 0x73696C2E6E69614D ∷ 0x74 ∷ []

-- the field `int v`
abbrev pub one_field : List ℕ
one_field = (73 + 2 ^ 32 * 1) ∷ 118 ∷ []

pub record EntryRows : Type 0 where
  pub pair : spelled (ShapeEntry pair_shape) ≡ pair_words
  pub pair_read : read_entry pair_words ≡ Some (ShapeEntry pair_shape, [])
  pub array_read : read_entry array_words ≡ Some (ShapeEntry int_array, [])
  pub root_read : read_entry root_words ≡ Some (RootEntry (77 ∷ 97 ∷ 105 ∷ 110 ∷ 46 ∷ 108 ∷ 105 ∷ 115 ∷ 116 ∷ []), [])
  pub rest_stays : read_entry ((2 + 2 ^ 32 * 2) ∷ 0 ∷ 5 ∷ []) ≡ Some (RootEntry [], 5 ∷ [])
  pub kind_3 : read_entry ((3 + 2 ^ 32 * 2) ∷ 0 ∷ []) ≡ None
  pub a_word_too_many : read_entry ((2 + 2 ^ 32 * 3) ∷ 0 ∷ 0 ∷ []) ≡ None
  pub a_word_too_few : read_entry ((2 + 2 ^ 32 * 3) ∷ 1 ∷ []) ≡ None
  pub not_filled_with_zeros : read_entry ((2 + 2 ^ 32 * 3) ∷ 1 ∷ 0x141 ∷ []) ≡ None
  pub letter_of_float : read_entry ((1 + 2 ^ 32 * 5) ∷ (1 + 2 ^ 32 * 1) ∷ 78 ∷ (70 + 2 ^ 32 * 1) ∷ 118 ∷ []) ≡ None
  pub array_of_floats : read_entry ((1 + 2 ^ 32 * 3) ∷ 2 ∷ 0x465B ∷ []) ≡ None
  pub string_s_name : string_name ≡ codes "java/lang/String"
  pub string_read : read_entry (string_words 4 0) ≡ Some (ShapeEntry string_shape, [])
  pub string_with_a_field : read_entry (string_words 6 1 ++ one_field) ≡ None
  pub name_of_any_bytes : read_entry ((1 + 2 ^ 32 * 3) ∷ 1 ∷ 0xFF ∷ [])
      ≡ Some (ShapeEntry (record { name = 255 ∷ []; fields = []; element = None }), [])
  pub array_with_a_field : read_entry ((1 + 2 ^ 32 * 5) ∷ (2 + 2 ^ 32 * 1) ∷ 0x495B ∷ one_field) ≡ None

-- ---- directories

-- a root of one byte
abbrev pub short_root : ℕ → List ℕ
short_root b = (2 + 2 ^ 32 * 3) ∷ 1 ∷ b ∷ []

-- so many roots, of one byte each
abbrev pub some_roots : ℕ → Directory
some_roots n = record { shapes = []; roots = map (λ b. b ∷ []) (range_with_len 0 n) }

abbrev pub short_shape : List ℕ
short_shape = (1 + 2 ^ 32 * 3) ∷ 1 ∷ 65 ∷ []

abbrev pub empty_shape : Shape
empty_shape = record { name = 65 ∷ []; fields = []; element = None }

-- entries whose first word is word 6 of the directory
pub record DirectoryRows : Type 0 where
  pub two_roots : with_entries 9 6 no_entries (short_root 65 ++ short_root 66)
      ≡ Ok (record { shapes = []; roots = (65 ∷ []) ∷ (66 ∷ []) ∷ [] })
  pub a_root_twice : with_entries 9 6 no_entries (short_root 65 ++ short_root 65) ≡ Err (34, bad.Entry)
  pub a_shape_twice : with_entries 9 6 no_entries (short_shape ++ short_root 66 ++ short_shape) ≡ Err (34, bad.Entry)
  pub one_of_each : with_entries 9 6 no_entries (short_root 65 ++ short_shape)
      ≡ Ok (record { shapes = empty_shape ∷ []; roots = (65 ∷ []) ∷ [] })
  pub a_string_with_a_field : with_entries 9 6 no_entries (short_root 65 ++ string_words 6 1 ++ one_field) ≡ Err (34, bad.Entry)
  pub root_256 : is_refused (some_roots 255) (RootEntry (255 ∷ [])) ≡ false
  pub root_257 : is_refused (some_roots 256) (RootEntry (0 ∷ 0 ∷ [])) ≡ true

-- ---- logs

-- two entries of one place, the line 2 and its word 3: the first of them stands
abbrev pub PutBackRow : Type 0
PutBackRow =
    put_each (record { place = 19; old = 5 } ∷ record { place = 19; old = 6 } ∷ []) (front 0 0 0 0) 2 3 ≡ 5

-- Log 0 has five entries that count: of the first root slot and the last one, of the first line of objects and the last line's last
-- word, and one of this place. It is the first of the log's second line.
abbrev pub five_logged : ℕ → Words
five_logged place =
    line_words 4129 (5 ∷ [])
    (line_words 4130 (8 ∷ 1 ∷ 263 ∷ 2 ∷ 164616 ∷ 3 ∷ 262143 ∷ 4 ∷ [])
    (line_words 4131 (place ∷ 5 ∷ []) nothing_there))

pub record LogRows : Type 0 where
  pub a_slot : log_fault 32768 (five_logged 9) 0 ≡ None
  pub the_superblock : log_fault 32768 (five_logged 7) 0 ≡ Some (4131, bad.LogPlace)
  pub the_directory : log_fault 32768 (five_logged 264) 0 ≡ Some (4131, bad.LogPlace)
  pub the_logs : log_fault 32768 (five_logged 164615) 0 ≡ Some (4131, bad.LogPlace)
  pub past_the_image : log_fault 32768 (five_logged 262144) 0 ≡ Some (4131, bad.LogPlace)
  pub a_place_twice : log_fault 32768 (five_logged 263) 0 ≡ Some (4131, bad.LogPlace)
  pub twice_in_two_logs : log_fault 32768 (line_words 4386 (1 ∷ []) (line_words 4387 (9 ∷ []) (five_logged 9))) 1
      ≡ Some (4387, bad.LogPlace)
  pub old : logged_at (five_logged 9) 0 1 ≡ record { place = 263; old = 2 }

-- A count above 1,024 fails first, and no smaller one does.
pub record LogCountIsChecked : Type 0 where
  pub above : (size : ℕ) (words : Words) (t : ℕ) → 1024 < log_count words t
      → log_fault size words t ≡ Some (log_head_line t, bad.LogCount)
  pub within : (size : ℕ) (words : Words) (t : ℕ) → log_count words t ≤ 1024
      → log_fault size words t ≡ first_fault (entry_fault size words t) (log_count words t)

-- ---- root slots

pub record RootRows : Type 0 where
  pub reference : root_fault 20600 (line_words 2 ((2 * 20577) ∷ []) nothing_there) 9 8 ≡ None
  pub odd : root_fault 20600 (line_words 2 ((2 * 20577 + 1) ∷ []) nothing_there) 9 8 ≡ Some (2, bad.Reference)
  pub unused : root_fault 20600 (line_words 2 ((2 * 20577) ∷ []) nothing_there) 8 8 ≡ Some (2, bad.Reference)
  pub unused_null : root_fault 20600 nothing_there 8 8 ≡ None

-- ---- objects

-- Of class N: -1 and itself; 5 and the first. An array of eight ints, on two lines.
abbrev pub two_pairs : Words
two_pairs =
    line_words 20577 ((0 + 2 ^ 32 * 2) ∷ 0xFFFFFFFF ∷ (2 * 20577) ∷ [])
    (line_words 20578 ((0 + 2 ^ 32 * 2) ∷ 5 ∷ (2 * 20577) ∷ [])
    (line_words 20580 ((1 + 2 ^ 32 * 8) ∷ []) nothing_there))

abbrev pub both_shapes : List Shape
both_shapes = pair_shape ∷ int_array ∷ []

-- the object with these words at line 20590, of an image of 20600 lines
abbrev pub check_one : List ℕ → Option Bad
check_one words = object_fault both_shapes 20600 (line_words 20590 words two_pairs) [] 20590

-- a String of one char, with this word
abbrev pub check_string : ℕ → Option Bad
check_string word = object_fault (string_shape ∷ []) 20600 (line_words 20590 ((2 ^ 32 * 1) ∷ word ∷ []) nothing_there) [] 20590

pub record ObjectRows : Type 0 where
  pub pair : check_one ((2 ^ 32 * 2) ∷ 5 ∷ 0 ∷ []) ≡ None
  pub other_shape : check_one ((2 + 2 ^ 32 * 2) ∷ []) ≡ Some (20590, bad.Shape)
  pub a_slot_too_many : check_one ((2 ^ 32 * 3) ∷ []) ≡ Some (20590, bad.Length)
  pub to_the_last_line : check_one ((1 + 2 ^ 32 * 79) ∷ []) ≡ None
  pub past_the_last_line : check_one ((1 + 2 ^ 32 * 80) ∷ []) ≡ Some (20590, bad.Length)
  pub begins_within_another :
      object_fault both_shapes 20600 (line_words 20581 ((2 ^ 32 * 2) ∷ []) two_pairs) (20577 ∷ 20580 ∷ []) 20581
      ≡ Some (20581, bad.Overlap)
  pub reaches_into_another :
      object_fault both_shapes 20600 (line_words 20579 ((1 + 2 ^ 32 * 8) ∷ []) two_pairs) (20577 ∷ 20580 ∷ []) 20579
      ≡ Some (20580, bad.Overlap)
  pub length_before_overlap :
      object_fault both_shapes 20600 (line_words 20581 ((2 ^ 32 * 3) ∷ []) two_pairs) (20577 ∷ 20580 ∷ []) 20581
      ≡ Some (20581, bad.Length)
  pub overlap_before_value :
      object_fault both_shapes 20600 (line_words 20579 ((1 + 2 ^ 32 * 8) ∷ (2 ^ 32) ∷ []) two_pairs) (20577 ∷ 20580 ∷ []) 20579
      ≡ Some (20580, bad.Overlap)
  pub a_string_s_char : check_string 0xFFFF ≡ None
  pub past_a_string_s_char : check_string 0x10000 ≡ Some (20590, bad.Value)
  pub past_an_int : check_one ((1 + 2 ^ 32 * 1) ∷ (2 ^ 32) ∷ []) ≡ Some (20590, bad.Value)
  pub on_the_second_line : object_fault both_shapes 20600 (line_words 20592 ((2 ^ 32) ∷ []) (line_words 20591 ((1 + 2 ^ 32 * 8) ∷ []) two_pairs)) [] 20591
      ≡ Some (20592, bad.Value)
  pub odd_reference : check_one ((2 ^ 32 * 2) ∷ 5 ∷ (2 * 20577 + 1) ∷ []) ≡ Some (20590, bad.Reference)
  pub before_the_objects : check_one ((2 ^ 32 * 2) ∷ 5 ∷ (2 * 20576) ∷ []) ≡ Some (20590, bad.Reference)
  pub after_the_lines : check_one ((2 ^ 32 * 2) ∷ 5 ∷ (2 * 20600) ∷ []) ≡ Some (20590, bad.Reference)
  pub the_first_slot_counts : check_one ((2 ^ 32 * 2) ∷ (2 ^ 32) ∷ 1 ∷ []) ≡ Some (20590, bad.Value)

pub record WordRows : Type 0 where
  pub true_is_1 : word_fault 20600 Z 7 1 ≡ None
  pub no_boolean : word_fault 20600 Z 7 2 ≡ Some (7, bad.Value)
  pub last_char : word_fault 20600 C 7 0xFFFF ≡ None
  pub no_char : word_fault 20600 C 7 0x10000 ≡ Some (7, bad.Value)
  pub least_long : value_of J 0x8000000000000000 ≡ Long (negsuc 0x7FFFFFFFFFFFFFFF)
  pub a_byte_s_int : value_of B 0xFFFFFF80 ≡ Int (negsuc 127)

pub record WalkRows : Type 0 where
  pub values : values_at both_shapes two_pairs 20577 ≡ Int (negsuc 0) ∷ Object 20577 ∷ []
  pub found : walk both_shapes 20600 two_pairs (Object 20578 ∷ []) 2 ≡ Ok (20578 ∷ 20577 ∷ [])
  pub checked : walk both_shapes 20577 two_pairs (Object 20578 ∷ []) 2 ≡ Err (20578, bad.Length)
