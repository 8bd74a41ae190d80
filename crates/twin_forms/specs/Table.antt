-- One heap of objects that lie in a space of volatile words, in lines of an image, or in both.
--
-- An object is born in volatile memory: its first three words are its state, its head and its number, and a word for
-- each slot follows. A thread that makes it durable copies it into lines of the image and forwards it, so that all
-- references to its old place lead to the copy (Shull, Huang and Torrellas, "AutoPersist", PLDI 2019).
use Rattle.std.specs.Prelude.{◌≡◌, ◌≢◌, ◌⊎◌, ℕ, ◌+◌, ◌-◌, ◌*◌, ◌/◌, ◌%◌, ◌<◌, ◌≤◌, ◌^◌, ◌==◌, ltb, Bool, true, false, List}
use Rattle.std.specs.Prelude.{length, Option, Some, None, slice_index_or, if◌then◌else◌}
use Rattle.ap_base.specs.declared.kind.Kind.{Kind}
use Rattle.ap_base.specs.declared.kind.Kind.TheVariants.{Z, B, C, S, I, J, L, Text}
use Rattle.object_header.specs.States.{header_word}
use Rattle.object_header.specs.declared.state.State.{State}
use Rattle.object_header.specs.declared.state.State.TheVariants.{Ordinary, Claimed, Copying, Converted, Durable}
use Rattle.image_layout.specs.Places.{head_of}

-- ---- where objects lie

-- What is known of an object. `at` is its index in the space, and `line` the first line of its copy.
-- stage: 0 in the space alone; 1 being copied, so many lines of it are copied; 2 forwarded; 3 in the image alone.
-- owner: 0, or 1 + the thread that has claimed it and not sealed it. A claimed object of stage 0 has no lines yet.
pub record Entry : Type 0 where
  pub shape : ℕ
  pub slots : ℕ
  pub at : ℕ
  pub line : ℕ
  pub copied : ℕ
  pub owner : ℕ
  pub stage : ℕ

abbrev pub no_entry : Entry
no_entry = record { shape = 0; slots = 0; at = 0; line = 0; copied = 0; owner = 0; stage = 0 }

-- the entry of an object, by its number
abbrev pub entry : List Entry → ℕ → Entry
entry es n = slice_index_or es n no_entry

-- how many lines a copy has, and which of them has a slot
abbrev pub lines_of : Entry → ℕ
lines_of e = e.slots / 8 + 1

abbrev pub line_of : ℕ → ℕ
line_of k = (1 + k) / 8

-- Line c of the copy has been copied.
abbrev pub HasCopied : Entry → ℕ → Type 0
HasCopied e c = (1 < e.stage) ⊎ ((e.stage ≡ 1) × (c < e.copied))

-- The thread has claimed the object, and hasn't sealed it.
abbrev pub IsClaimed : List Entry → ℕ → ℕ → Type 0
IsClaimed es t n = (n < length es) × ((entry es n).owner ≡ t + 1)

-- The object is durable.
abbrev pub InP : List Entry → ℕ → Type 0
InP es n = (n < length es) × (1 < (entry es n).stage) × ((entry es n).owner ≡ 0)

-- its state, of an object that lies in the space
abbrev pub state_in : Entry → State
state_in e = if e.stage == 0 then (if e.owner == 0 then Ordinary else Claimed (e.owner - 1))
    else (if e.stage == 1 then Copying (e.owner - 1) e.line
    else (if e.owner == 0 then Durable e.line else Converted (e.owner - 1) e.line))

abbrev pub state_word : Entry → ℕ
state_word e = header_word (state_in e)

abbrev pub head_word : Entry → ℕ
head_word e = head_of e.shape e.slots

-- ---- the words of the heap

-- The words of space and image, and what the heap keeps beside them. Word p of the image is word p % 8 of line p / 8.
pub record View : Type 0 where
  pub old : ℕ → ℕ
  pub shown : ℕ → ℕ
  -- by the first line of a copy: the object's number, how many lines are copied, and its owner
  pub number : ℕ → ℕ
  pub copied : ℕ → ℕ
  pub owner : ℕ → ℕ
  -- by an object's number: the word of the reference with which it began
  pub birth : ℕ → ℕ
  -- by a shape's number and a slot's: the slot's kind, if it has one
  pub kinds : ℕ → ℕ → Option Kind
  -- by the same two: whether what stands in the slot is kept in the image
  pub kept : ℕ → ℕ → Bool
  -- how many words are taken, how many are left, and how many lines the image has
  pub words : ℕ
  pub left : ℕ
  pub lines : ℕ
  -- how many lines, objects and shapes the heap knows of, and for how many further objects it has room
  pub marks : ℕ
  pub count : ℕ
  pub shapes : ℕ
  pub room : ℕ

abbrev pub kind_at : View → Entry → ℕ → Option Kind
kind_at v e k = v.kinds e.shape k

-- Whether what stands in the slot is kept in the image.
abbrev pub kept_at : View → Entry → ℕ → Bool
kept_at v e k = v.kept e.shape k

abbrev pub is_reference : Option Kind → Bool
is_reference None = false
is_reference (Some Z) = false
is_reference (Some B) = false
is_reference (Some C) = false
is_reference (Some S) = false
is_reference (Some I) = false
is_reference (Some J) = false
is_reference (Some L) = true
is_reference (Some Text) = false

-- Whether the slot holds references.
abbrev pub refers : View → Entry → ℕ → Bool
refers v e k = is_reference (kind_at v e k)

-- the word of a slot, in the copy that is current
abbrev pub word_of : View → Entry → ℕ → ℕ
word_of v e k = if ltb e.stage 2 then v.old (e.at + 3 + k) else v.shown (8 * e.line + 1 + k)

-- The word is a reference to the object: to its place in the space, or to its copy once that is current. The first
-- stays one for good.
abbrev pub Names : Entry → ℕ → Type 0
Names e w = ((e.stage < 3) × (w ≡ 2 * e.at + 1)) ⊎ ((1 < e.stage) × (w ≡ 2 * e.line) × (0 < w))

-- null, or a reference to an object
abbrev pub IsRef : List Entry → ℕ → Type 0
IsRef es w = (w ≡ 0) ⊎ ((n : ℕ) × (n < length es) × Names (entry es n) w)

-- ---- what is shown

-- the number to which a reference's word leads
abbrev pub number_of : View → ℕ → ℕ
number_of v w = if w % 2 == 0 then v.number (w / 2) else v.old (w / 2 + 2)

-- a word that is no reference, null, or the object of a number
pub data Value : Type 0 where
  Plain : ℕ → Value
  Null : Value
  Obj : ℕ → Value

-- what a word shows in a slot that holds references, or that holds none
abbrev pub value_of : View → Bool → ℕ → Value
value_of v b w = if b then (if w == 0 then Null else Obj (number_of v w)) else Plain w

-- what a slot of an object shows: no place or copy is seen in it
abbrev pub shows : View → List Entry → ℕ → ℕ → Value
shows v es n k = value_of v (refers v (entry es n) k) (word_of v (entry es n) k)

-- ---- a valid heap

-- two stretches, each from its first place on, have none in common
abbrev pub Apart : ℕ → ℕ → ℕ → ℕ → Type 0
Apart a m b n = (a + m ≤ b) ⊎ (b + n ≤ a)

-- Where the objects lie: within so many words and lines, of so many shapes, and none over another.
pub record Table (words lines shapes : ℕ) (es : List Entry) : Type 0 where
  pub few_words : words < 2 ^ 32
  pub few_lines : lines < 2 ^ 32
  pub few_shapes : shapes ≤ 2 ^ 32
  pub stages : (n : ℕ) → n < length es → (entry es n).stage ≤ 3
  pub owners : (n : ℕ) → n < length es → (entry es n).owner ≤ 64
  pub copying : (n : ℕ) → n < length es → (entry es n).stage ≡ 1 → 0 < (entry es n).owner
  pub born : (n : ℕ) → n < length es → (entry es n).stage ≡ 3 → (entry es n).owner ≡ 0
  pub shape_in : (n : ℕ) → n < length es → (entry es n).shape < shapes
  pub few_slots : (n : ℕ) → n < length es → (entry es n).slots < 2 ^ 31
  pub old_in : (n : ℕ) → n < length es → (entry es n).stage < 3 → (entry es n).at + 3 + (entry es n).slots ≤ words
  pub copy_in : (n : ℕ) → n < length es → 0 < (entry es n).stage → (0 < (entry es n).line) × ((entry es n).line + (entry es n).slots / 8 + 1 ≤ lines)
  pub old_apart : (m n : ℕ) → m < length es → n < length es → m ≢ n → (entry es m).stage < 3 → (entry es n).stage < 3
      → Apart (entry es m).at ((entry es m).slots + 3) (entry es n).at ((entry es n).slots + 3)
  pub copy_apart : (m n : ℕ) → m < length es → n < length es → m ≢ n → 0 < (entry es m).stage → 0 < (entry es n).stage
      → Apart (entry es m).line ((entry es m).slots / 8 + 1) (entry es n).line ((entry es n).slots / 8 + 1)

-- Object n lies so in the words.
pub record Sits (v : View) (n : ℕ) (e : Entry) : Type 0 where
  pub state : e.stage < 3 → v.old e.at ≡ state_word e
  pub head : e.stage < 3 → v.old (e.at + 1) ≡ head_word e
  pub number : e.stage < 3 → v.old (e.at + 2) ≡ n
  pub copy_number : 0 < e.stage → v.number e.line ≡ n
  pub copy_owner : 0 < e.stage → v.owner e.line ≡ e.owner
  pub copy_head : 1 < e.stage → v.shown (8 * e.line) ≡ head_word e
  pub count : e.stage ≡ 1 → v.copied e.line ≡ e.copied
  -- until it is forwarded, each line that is copied has the words of the old copy
  pub mirrored_head : e.stage ≡ 1 → 0 < e.copied → v.shown (8 * e.line) ≡ head_word e
  pub mirrored : (k : ℕ) → e.stage ≡ 1 → k < e.slots → 1 + k < 8 * e.copied → v.shown (8 * e.line + 1 + k) ≡ v.old (e.at + 3 + k)

-- the word of the reference with which each object began
pub record Births (birth : ℕ → ℕ) (es : List Entry) : Type 0 where
  pub old : (n : ℕ) → n < length es → (entry es n).stage < 3 → birth n ≡ 2 * (entry es n).at + 1
  pub copy : (n : ℕ) → n < length es → (entry es n).stage ≡ 3 → birth n ≡ 2 * (entry es n).line

-- The heap is valid, and this table says where its objects lie, each at its number.
pub record Lies (v : View) (es : List Entry) : Type 0 where
  pub long : length es ≡ v.count
  pub marked : v.marks ≡ v.lines
  pub few : v.count + v.room < 2 ^ 32
  pub roomy : v.left < 3 * v.room + 3
  pub births : Births v.birth es
  pub table : Table v.words v.lines v.shapes es
  pub sits : (n : ℕ) → n < length es → Sits v n (entry es n)
  pub refs : (n k : ℕ) → n < length es → refers v (entry es n) k ≡ true → k < (entry es n).slots → IsRef es (word_of v (entry es n) k)

abbrev pub IsValid : View → Type 0
IsValid v = (es : List Entry) × Lies v es

-- The heap is valid, and the reference leads to an object; to one with such a slot.
abbrev pub Leads : View → ℕ → Type 0
Leads v r = (es : List Entry) × (n : ℕ) × Lies v es × (n < length es) × Names (entry es n) r

abbrev pub HasSlot : View → ℕ → ℕ → Type 0
HasSlot v r i = (es : List Entry) × (n : ℕ) × Lies v es × (n < length es) × Names (entry es n) r × (i < (entry es n).slots)
