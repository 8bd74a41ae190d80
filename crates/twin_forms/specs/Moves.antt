-- What the calls on a heap over two spaces change.
--
-- A contract asks for some table and speaks of every one: the words alone tell where the objects lie.
use Rattle.std.specs.Prelude.{◌≡◌, ◌≢◌, ◌⊎◌, ℕ, ◌+◌, ◌*◌, ◌/◌, ◌%◌, ◌<◌, ◌≤◌, ◌==◌, ltb, Bool, true, List, [], ◌∷◌, ◌++◌}
use Rattle.std.specs.Prelude.{length, slice_set, if◌then◌else◌}
use Rattle.line_memory.specs.Memory.{Memory, shown, CanLeave, SameImage, SameResident}
use Rattle.twin_forms.specs.Table.{Entry, View, entry, refers, kept_at, word_of, Names, IsRef, shows, Apart, Lies, HasCopied}
use Rattle.twin_forms.specs.Table.{line_of}

-- ---- a store

-- The slot may be given this word: one of its kind. A reference that is put into a copied line is the line's word of
-- its object, 2 × line, and not the volatile one.
pub record MayStore (v : View) (r i w : ℕ) (es : List Entry) (n : ℕ) : Type 0 where
  pub lies : Lies v es
  pub there : n < length es
  pub names : Names (entry es n) r
  pub slot : i < (entry es n).slots
  pub reference : refers v (entry es n) i ≡ true → IsRef es w
  pub line_word : refers v (entry es n) i ≡ true → HasCopied (entry es n) (line_of i) → w % 2 ≡ 0

-- One slot of one object has another word, no other slot of any object has, all objects lie where they lay, and the same
-- slots are kept.
pub record Stored (v v' : View) (es : List Entry) (n i w : ℕ) : Type 0 where
  pub lies : Lies v' es
  pub here : word_of v' (entry es n) i ≡ w
  pub same : (m k : ℕ) → m < length es → k < (entry es m).slots → (m ≢ n) ⊎ (k ≢ i) → word_of v' (entry es m) k ≡ word_of v (entry es m) k
  pub kept : v'.kept ≡ v.kept

abbrev pub Stores : ℕ → ℕ → ℕ → View → View → Type 0
Stores r i w v v' = (es : List Entry) (n : ℕ) → MayStore v r i w es n → Stored v v' es n i w

-- ---- moves

-- Each slot of each object shows what it showed, what led to an object leads to it, and the same slots are kept.
pub record SameHeap (v : View) (es : List Entry) (v' : View) (es' : List Entry) : Type 0 where
  pub long : length es' ≡ length es
  pub shapes : (n : ℕ) → n < length es → (entry es' n).shape ≡ (entry es n).shape
  pub slots : (n : ℕ) → n < length es → (entry es' n).slots ≡ (entry es n).slots
  pub led : (n w : ℕ) → n < length es → Names (entry es n) w → Names (entry es' n) w
  pub same : (n k : ℕ) → n < length es → k < (entry es n).slots → shows v' es' n k ≡ shows v es n k
  pub kept : v'.kept ≡ v.kept

-- Objects lie otherwise, and the heap shows what it showed.
pub record Moved (v : View) (es : List Entry) (v' : View) (es' : List Entry) : Type 0 where
  pub lies : Lies v' es'
  pub same : SameHeap v es v' es'

-- an entry after a claim by thread t; once its copy is to begin at a line; after one more line, the forward, the seal
abbrev pub owned : ℕ → Entry → Entry
owned t e = record e { owner = t + 1 }

abbrev pub placed : ℕ → Entry → Entry
placed line e = record e { line = line; copied = 0; stage = 1 }

abbrev pub one_more : Entry → Entry
one_more e = record e { copied = e.copied + 1 }

abbrev pub forwarded : Entry → Entry
forwarded e = record e { stage = 2 }

abbrev pub sealed : Entry → Entry
sealed e = record e { owner = 0 }

-- An object that may be changed so lies otherwise after the call, and no other does.
abbrev pub Becomes : (Entry → Entry) → (View → List Entry → ℕ → Type 0) → View → View → Type 0
Becomes f May v v' = (es : List Entry) (n : ℕ) → Lies v es → n < length es → May v es n → Moved v es v' (slice_set es n (f (entry es n)))

-- Some table has such an object.
abbrev pub SomeObject : (View → List Entry → ℕ → Type 0) → View → Type 0
SomeObject May v = (es : List Entry) × (n : ℕ) × Lies v es × (n < length es) × May v es n

-- it lies at this index of the space
abbrev pub LiesAt : ℕ → Entry → Type 0
LiesAt at e = (e.stage < 3) × (e.at ≡ at)

abbrev pub IsAt : ℕ → View → List Entry → ℕ → Type 0
IsAt at v es n = LiesAt at (entry es n)

-- it is ordinary
abbrev pub ToClaim : ℕ → View → List Entry → ℕ → Type 0
ToClaim at v es n = LiesAt at (entry es n) × ((entry es n).stage ≡ 0) × ((entry es n).owner ≡ 0)

-- It is claimed and has no lines, the lines are within the image, and no object lies there.
pub record ToPlace (at line : ℕ) (v : View) (es : List Entry) (n : ℕ) : Type 0 where
  pub object : (entry es n).at ≡ at
  pub young : (entry es n).stage ≡ 0
  pub claimed : 0 < (entry es n).owner
  pub some : 0 < line
  pub within : line + (entry es n).slots / 8 + 1 ≤ v.lines
  pub free : (m : ℕ) → m < length es → 0 < (entry es m).stage → Apart line ((entry es n).slots / 8 + 1) (entry es m).line ((entry es m).slots / 8 + 1)

-- a line is left to be copied
abbrev pub ToCopy : ℕ → View → List Entry → ℕ → Type 0
ToCopy at v es n = ((entry es n).at ≡ at) × ((entry es n).stage ≡ 1) × (8 * (entry es n).copied ≤ (entry es n).slots)

-- all lines are copied
abbrev pub ToForward : ℕ → View → List Entry → ℕ → Type 0
ToForward at v es n = ((entry es n).at ≡ at) × ((entry es n).stage ≡ 1) × ((entry es n).slots < 8 * (entry es n).copied)

-- It is forwarded, and so is each object of the space to which a kept slot of its line c refers.
abbrev pub ToRepair : ℕ → ℕ → View → List Entry → ℕ → Type 0
ToRepair at c v es n = ((entry es n).at ≡ at) × ((entry es n).stage ≡ 2) × (8 * c ≤ (entry es n).slots) ×
    ((k m : ℕ) → k < (entry es n).slots → line_of k ≡ c → refers v (entry es n) k ≡ true → kept_at v (entry es n) k ≡ true → m < length es
    → word_of v (entry es n) k ≡ 2 * (entry es m).at + 1 → (entry es m).stage < 3 → (entry es m).stage ≡ 2)

-- No kept slot of line c of its copy holds a volatile reference.
abbrev pub IsRepaired : ℕ → View → List Entry → ℕ → Type 0
IsRepaired c v es n = (k : ℕ) → k < (entry es n).slots → line_of k ≡ c → refers v (entry es n) k ≡ true
    → kept_at v (entry es n) k ≡ true → word_of v (entry es n) k % 2 ≡ 0

-- It is forwarded and not sealed.
abbrev pub ToSeal : ℕ → View → List Entry → ℕ → Type 0
ToSeal at v es n = ((entry es n).at ≡ at) × ((entry es n).stage ≡ 2) × (0 < (entry es n).owner)

-- ---- a new object

abbrev pub fresh : ℕ → ℕ → ℕ → Entry
fresh shape slots at = record { shape = shape; slots = slots; at = at; line = 0; copied = 0; owner = 0; stage = 0 }

-- All objects are and show what they did, and one more lies behind the words that were taken: all its words are 0. The
-- same slots are kept.
pub record Added (shape slots : ℕ) (v : View) (es : List Entry) (v' : View) : Type 0 where
  pub lies : Lies v' (es ++ fresh shape slots v.words ∷ [])
  pub zeros : (k : ℕ) → k < slots → v'.old (v.words + 3 + k) ≡ 0
  pub same : (n k : ℕ) → n < length es → k < (entry es n).slots → shows v' (es ++ fresh shape slots v.words ∷ []) n k ≡ shows v es n k
  pub kept : v'.kept ≡ v.kept

abbrev pub Adds : ℕ → ℕ → View → View → Type 0
Adds shape slots v v' = (es : List Entry) → Lies v es → Added shape slots v es v'

-- ---- what a stop may leave

-- No word of another line shows or may be left otherwise, and no call of the image is made.
pub record ChangesLine (line : ℕ) (old new : Memory) : Type 0 where
  pub others : (l w : ℕ) → l ≢ line → shown new l w ≡ shown old l w
  pub leaves : (l w x : ℕ) → l ≢ line → CanLeave new l w x → CanLeave old l w x
  pub size : new.size ≡ old.size
  pub same : SameImage old new
  pub resident : SameResident old new

-- ---- words one by one

-- what a copy has at its word j
abbrev pub copy_word : (ℕ → ℕ) → ℕ → ℕ → ℕ → ℕ → ℕ
copy_word space head base slots j = if j == 0 then head else (if ltb slots j then 0 else space (base + j))

-- The reference to an object's copy, where it is one to the space.
abbrev pub repaired : (ℕ → ℕ) → Bool → ℕ → ℕ
repaired space b w = if b then (if w % 2 == 0 then w else 2 * (space (w / 2) / 4294967296)) else w

-- the words from low to before high are those that P says, and the others are as before
pub record Filled (low high : ℕ) (P f f' : ℕ → ℕ) : Type 0 where
  pub outside : (q : ℕ) → (q < low) ⊎ (high ≤ q) → f' q ≡ f q
  pub inside : (q : ℕ) → low ≤ q → q < high → f' q ≡ P q
