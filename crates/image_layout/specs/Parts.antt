-- The parts before the objects, and each part's word of the image. Of this project's own format.
use Rattle.std.specs.Prelude.{◌≡◌, ℕ, ◌+◌, ◌<◌, ◌≤◌}
use Rattle.image_layout.specs.Places.{root_slots, directory_words, logs, log_entries, slot_line, slot_word, directory_line}
use Rattle.image_layout.specs.Places.{directory_word, log_head_line, log_entry_line, log_entry_word, object_line, object_word}

-- a word of the superblock, a root slot, a word of the directory, a word of a log's head line, a word of a log's entry
pub data Part : Type 0 where
  Superblock : ℕ → Part
  RootSlot : ℕ → Part
  DirectoryWord : ℕ → Part
  LogHead : ℕ → ℕ → Part
  LogEntry : ℕ → ℕ → ℕ → Part

-- the image has such a part
abbrev pub IsPart : Part → Type 0
IsPart (Superblock word) = word < 8
IsPart (RootSlot root) = root < root_slots
IsPart (DirectoryWord i) = i < directory_words
IsPart (LogHead thread word) = (thread < logs) × (word < 8)
IsPart (LogEntry thread n half) = (thread < logs) × (n < log_entries) × (half < 2)

-- the line of a part, and its word in the line
abbrev pub spot_of : Part → ℕ × ℕ
spot_of (Superblock word) = (0, word)
spot_of (RootSlot root) = (slot_line root, slot_word root)
spot_of (DirectoryWord i) = (directory_line i, directory_word i)
spot_of (LogHead thread word) = (log_head_line thread, word)
spot_of (LogEntry thread n half) = (log_entry_line thread n, log_entry_word n + half)

-- it is one of these lines, from the first to the last
abbrev pub IsFromTo : ℕ → ℕ → ℕ → Type 0
IsFromTo first final line = (first ≤ line) × (line ≤ final)

-- the line is one of the part's row of the table
abbrev pub IsInRow : Part → ℕ → Type 0
IsInRow (Superblock word) line = line ≡ 0
IsInRow (RootSlot root) line = IsFromTo 1 32 line
IsInRow (DirectoryWord i) line = IsFromTo 33 4128 line
IsInRow (LogHead thread word) line = IsFromTo 4129 20576 line
IsInRow (LogEntry thread n half) line = IsFromTo 4129 20576 line

-- the line of a log's part is one of that log's 257
abbrev pub IsInItsLog : Part → ℕ → Type 0
IsInItsLog (Superblock word) line = Unit {0}
IsInItsLog (RootSlot root) line = Unit {0}
IsInItsLog (DirectoryWord i) line = Unit {0}
IsInItsLog (LogHead thread word) line = IsFromTo (log_head_line thread) (log_head_line thread + 256) line
IsInItsLog (LogEntry thread n half) line = IsFromTo (log_head_line thread) (log_head_line thread + 256) line

-- of slot i of the object that begins at line l
abbrev pub object_spot : ℕ → ℕ → ℕ × ℕ
object_spot l i = (object_line l i, object_word i)
