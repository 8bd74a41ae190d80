-- A device of lines of eight words, by what was done to it: what a read gives, and what a stop leaves.
--
-- A line write is a write-back of a cache line (CLWB), a fence is an SFENCE, and a word is an aligned store
-- of eight bytes, which a power failure doesn't tear (Intel 64 and IA-32 Architectures Software Developer's
-- Manual, volume 2; the AutoPersist paper, PLDI 2019, stands on the same operations).
use Rattle.std.specs.Prelude.{◌≡◌, ◌⊎◌, ℕ, List, [], ◌∷◌, Bool, true, ◌&&◌, Option, Some, None, get_or, slice_index, slice_set}
use Rattle.std.specs.Prelude.{if◌then◌else◌, ◌==◌, nat_lt, nat_le, length}
use Rattle.line_image.specs.declared.effect.Effect.{Effect}
use Rattle.line_image.specs.declared.effect.Done.{Done}
use Rattle.line_image.specs.declared.effect.Done.TheVariants.{Wrote, Fenced}

-- the lines of an image as they were first, and the writes and fences since, the newest first
pub record Trace : Type 0 where
  pub first : List (List ℕ)
  pub done : List Effect

-- the first of some versions
abbrev pub newest : List (List ℕ) → List ℕ
newest [] = []
newest (words ∷ rest) = words

-- The versions of a line: what writes gave it since the last fence, the newest first, and behind them what
-- was fenced.
abbrev pub versions_after : Done → ℕ → List (List ℕ) → List (List ℕ)
versions_after (Wrote line words) l versions = if line == l then words ∷ versions else versions
versions_after Fenced l versions = newest versions ∷ []

abbrev pub versions_from : List ℕ → List Effect → ℕ → List (List ℕ)
versions_from first [] l = first ∷ []
versions_from first (effect ∷ done) l = versions_after effect.done l (versions_from first done l)

abbrev pub versions : Trace → ℕ → List (List ℕ)
versions h l = versions_from (get_or h.first l []) h.done l

-- what reads give of the lines, after this was done
abbrev pub lines_after : Done → List (List ℕ) → List (List ℕ)
lines_after (Wrote line words) lines = slice_set lines line words
lines_after Fenced lines = lines

-- it writes one of so many lines, and eight words
abbrev pub is_within : ℕ → Done → Bool
is_within size (Wrote line words) = nat_lt line size && length words == 8
is_within size Fenced = true

-- one of these versions has this value in the word
abbrev pub OneHas : List (List ℕ) → ℕ → ℕ → Type 0
OneHas [] w v = ⊥
OneHas (words ∷ rest) w v = (v ≡ slice_index words w) ⊎ OneHas rest w v

-- An image may tell nothing of what was done to it: its trace is None then, and a premise on it doesn't hold.

-- a stop now leaves this value in a word: the fenced one, or any that a write since has given it
abbrev pub MayLeave : Option Trace → ℕ → ℕ → ℕ → Type 0
MayLeave None l w v = ⊥
MayLeave (Some h) l w v = OneHas (versions h l) w v

-- the words that a stop leaves, by line and place in the line
abbrev pub Outcome : Type 0
Outcome = ℕ → ℕ → ℕ

-- a stop now leaves these words, each whatever the others are
abbrev pub LeavesNow : Option Trace → Outcome → Type 0
LeavesNow o c = (l w : ℕ) → MayLeave o l w (c l w)

-- Within call m the values of its write are there already, and its fence isn't made yet.
abbrev pub is_made : ℕ → ℕ → Done → Bool
is_made m at (Wrote line words) = nat_le at m
is_made m at Fenced = nat_lt at m

-- what was done by then, of what was done in order
abbrev pub made_within : ℕ → List Effect → List Effect
made_within m [] = []
made_within m (effect ∷ done) = if is_made m effect.at effect.done then effect ∷ done else made_within m done

abbrev pub trace_within : ℕ → Option Trace → Option Trace
trace_within m None = None
trace_within m (Some h) = Some (record h { done = made_within m h.done })

-- a stop within call m might have left these words
abbrev pub LeftWithin : Option Trace → ℕ → Outcome → Type 0
LeftWithin o m c = LeavesNow (trace_within m o) c

-- a read of the line gives these words
abbrev pub Reads : Option Trace → ℕ → List ℕ → Type 0
Reads None l words = Unit {0}
Reads (Some h) l words = words ≡ newest (versions h l)

-- a word that a read gives
abbrev pub read_word : Trace → ℕ → ℕ → ℕ
read_word h l w = slice_index (newest (versions h l)) w

-- nothing is unfenced: a stop now leaves of each word what a read gives
abbrev pub IsAllFenced : Option Trace → Type 0
IsAllFenced None = Unit {0}
IsAllFenced (Some h) = (l w v : ℕ) → MayLeave (Some h) l w v → v ≡ read_word h l w

-- after call number `at`, which did this
abbrev pub did : Done → ℕ → Option Trace → Option Trace
did done at None = None
did done at (Some h) = Some (record h { done = record { at = at; done = done } ∷ h.done })
