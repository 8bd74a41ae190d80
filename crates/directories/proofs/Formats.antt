-- A blank image is formatted.
use Rattle.std.proofs.Common.{◌≡◌, ◌⊎◌, inl, inr, ⊎_elim, ◌<◌, ◌≤◌, ◌+◌, ℕ, refl, sym, ◌∙◌, subst, arith}
use Rattle.std.proofs.lemmas.Bool.{cases_lt}
use Rattle.line_memory.specs.Memory.{Memory, shown, IsWritten, IsDurable, SameImage}
use Rattle.image_layout.specs.Places.{magic, version, min_lines, root_slots, logs, slot_line, slot_word, log_head_line}
use Rattle.image_meaning.specs.Checks.{Words}
use Rattle.word_changes.specs.Changes.{Tells, AllKnown, IsFixed, Nothing, IsGiven, IsLeft, ChangesTo, WritesAll, AllFixed}
use Rattle.word_changes.specs.Changes.{StopsLeave}
use Rattle.word_changes.proofs.Changing.{changes_nothing, changes_weaker, changes_nowhere, changes_more, stays_fixed}
use Rattle.word_changes.proofs.Changing.{left_fixed, changes_stops, stops_then}
use Rattle.word_changes.proofs.Writing.{AreWithin, AreApart, still_wrote, left_as_fixed, wrote_after, wrote_both, fence_wrote}
use Rattle.directories.specs.Formatting.{IsFormatted, IsBlankOrFormatted, IsCleared, OfLines, OfSlots, OfCounts, OfCleared}
use Rattle.directories.specs.Formatting.{OfSuperblock, OfFront, OfLayout}

-- ---- where the words lie

module _ (size : ℕ) (enough : min_lines ≤ size) where
  pub slots_within : AreWithin OfSlots size
  slots_within l w v given = omega (arith, given.1, enough)

  pub counts_within : (n : ℕ) → n ≤ logs → AreWithin (OfCounts n) size
  counts_within n few l w v given = omega (arith, given.1, given.2, few, enough)

  superblock_within : (lines : ℕ) → AreWithin (OfSuperblock lines) size
  superblock_within lines l w v given = omega (arith, given.0, enough)

  pub cleared_within : AreWithin OfCleared size
  cleared_within l w v given = ⊎_elim (λ slot. slots_within l w v slot) (λ count. counts_within logs (omega arith) l w v count) given

  pub front_within : (lines : ℕ) → AreWithin (OfFront lines) size
  front_within lines l w v given = ⊎_elim (λ first. cleared_within l w v first) (λ super. superblock_within lines l w v super) given

  pub layout_within : (lines : ℕ) → AreWithin (OfLayout lines) size
  layout_within lines l w v given = ⊎_elim
      (λ front. front_within lines l w v front)
      (λ first. omega (arith, first.0, enough))
      given

slots_no_count : (n : ℕ) → AreApart OfSlots (OfCounts n)
slots_no_count n l w v x slot count = omega (arith, slot.1, count.2)

-- none of these lies in the superblock
behind_superblock : (l w v : ℕ) → OfCleared l w v → 0 < l
behind_superblock l w v given = ⊎_elim (λ slot. omega (arith, slot.0)) (λ count. omega (arith, count.2)) given

cleared_no_superblock : (lines : ℕ) → AreApart OfCleared (OfSuperblock lines)
cleared_no_superblock lines l w v x given super = omega (arith, behind_superblock l w v given, super.0)

-- the magic word is none of them
superblock_behind : (lines : ℕ) → AreApart (OfSuperblock lines) (IsGiven 0 0 magic)
superblock_behind lines l w v x super first = ⊎_elim
    (λ one. omega (arith, one.0, first.1))
    (λ other. ⊎_elim (λ two. omega (arith, two.0, first.1)) (λ three. omega (arith, three.0, first.1)) other)
    super.1

pub front_behind : (lines : ℕ) → AreApart (OfFront lines) (IsGiven 0 0 magic)
front_behind lines l w v x given first = ⊎_elim
    (λ cleared. omega (arith, behind_superblock l w v cleared, first.0))
    (λ super. superblock_behind lines l w v x super first)
    given

nothing_apart : (Gives : ℕ → ℕ → ℕ → Type 0) → AreApart Gives Nothing
nothing_apart Gives l w v x given none = none

-- a fence behind what was written
pub fenced_wrote : (Gives : ℕ → ℕ → ℕ → Type 0) (a b c : Memory) → ChangesTo Gives a b → AreWithin Gives b.size → WritesAll Gives a b
    → ChangesTo Nothing b c → WritesAll Gives a c
fenced_wrote Gives a b c before within wrote fence = still_wrote Gives Nothing a b c (nothing_apart Gives) fence Gives before within wrote

-- ---- single words and lines

-- a word that was put shows its value
pub given_shown : (line word v : ℕ) (m : Memory) → shown m line word ≡ v → (l w x : ℕ) → IsGiven line word v l w x → shown m l w ≡ x
given_shown line word v m shows l w x given = rw (given.0, given.1, given.2) shows

pub line_shown : (line : ℕ) (m : Memory) → ((w : ℕ) → w < 8 → shown m line w ≡ 0) → (l w v : ℕ) → OfLines line (line + 1) l w v
    → shown m l w ≡ v
line_shown line m shows l w v given =
    let at : l ≡ line = omega (arith, given.0, given.1) in
    rw (at, given.3) (shows w given.2)

-- the same by equal places
pub changes_at : (l w line word v : ℕ) (a b : Memory) → l ≡ line → w ≡ word → ChangesTo (IsGiven l w v) a b → ChangesTo (IsGiven line word v) a b
changes_at l w line word v a b at is changes =
    changes_weaker (IsGiven l w v) (IsGiven line word v) a b (λ k x y given. (given.0 ∙ at, given.1 ∙ is, given.2)) changes

pub wrote_at : (l w line word v : ℕ) (a b : Memory) → l ≡ line → w ≡ word → WritesAll (IsGiven l w v) a b → WritesAll (IsGiven line word v) a b
wrote_at l w line word v a b at is wrote = record {
  shows = λ known k x y given. wrote.shows known k x y (given.0 ∙ sym at, given.1 ∙ sym is, given.2);
  written = λ tells k x y given. wrote.written tells k x y (given.0 ∙ sym at, given.1 ∙ sym is, given.2);
}

-- one word more of a line is cleared
pub word_of_line : (line word : ℕ) (a b c : Memory) → word < 8 → ChangesTo (OfLines line (line + 1)) a b → ChangesTo (IsGiven line word 0) b c
    → ChangesTo (OfLines line (line + 1)) a c
word_of_line line word a b c below so_far put =
    changes_more (OfLines line (line + 1)) a b c so_far
    (changes_weaker (IsGiven line word 0) (OfLines line (line + 1)) b c
    (λ l w v given. (omega (arith, given.0), omega (arith, given.0), omega (arith, given.1, below), given.2)) put)

-- ---- lines and counts, one after another

pub lines_more : (from to : ℕ) (a b c : Memory) → from ≤ to → AreWithin (OfLines from to) b.size → ChangesTo (OfLines from to) a b
    → WritesAll (OfLines from to) a b → ChangesTo (OfLines to (to + 1)) b c → WritesAll (OfLines to (to + 1)) b c
    → WritesAll (OfLines from (to + 1)) a c
lines_more from to a b c some within before so_far changes line =
    wrote_both (OfLines from to) (OfLines to (to + 1)) (OfLines from (to + 1)) a c
    (λ l w v given. ⊎_elim
    (λ (low : l < to). inl (given.0, low, given.2, given.3))
    (λ (high : to ≤ l). inr (high, given.1, given.2, given.3))
    (cases_lt l to))
    (still_wrote (OfLines from to) (OfLines to (to + 1)) a b c (λ l w v x low high. omega (arith, low.1, high.0)) changes
    (OfLines from to) before within so_far)
    (wrote_after (OfLines from to) (OfLines to (to + 1)) a b c before line)

pub lines_begin : (from : ℕ) (m : Memory) → WritesAll (OfLines from from) m m × ChangesTo (OfLines from from) m m
lines_begin from m = (
  record {
    shows = λ known l w v given. absurd (omega (arith, given.0, given.1));
    written = λ tells l w v given. absurd (omega (arith, given.0, given.1));
  },
  changes_nothing (OfLines from from) m,
)

pub counts_begin : (m : Memory) → WritesAll (OfCounts 0) m m × ChangesTo (OfCounts 0) m m
counts_begin m = (
  record {
    shows = λ known l w v given. absurd (omega (arith, given.1));
    written = λ tells l w v given. absurd (omega (arith, given.1));
  },
  changes_nothing (OfCounts 0) m,
)

pub lines_within : (size : ℕ) → min_lines ≤ size → (from to : ℕ) → to ≤ min_lines → AreWithin (OfLines from to) size
lines_within size enough from to few l w v given = omega (arith, given.1, few, enough)

-- the lines so far are some of those of the root slots
pub lines_of_slots : (from to : ℕ) (a b : Memory) → slot_line 0 ≤ from → to ≤ slot_line root_slots → ChangesTo (OfLines from to) a b
    → ChangesTo OfSlots a b
lines_of_slots from to a b low high changes =
    changes_weaker (OfLines from to) OfSlots a b
    (λ l w v given. (omega (arith, given.0, low), omega (arith, given.1, high), given.2, given.3)) changes

pub count_of_logs : (n t : ℕ) (a b : Memory) → t < n → ChangesTo (IsGiven (log_head_line t) 0 0) a b → ChangesTo (OfCounts n) a b
count_of_logs n t a b below changes =
    changes_weaker (IsGiven (log_head_line t) 0 0) (OfCounts n) a b (λ l w v given. (t, below, given.0, given.1, given.2)) changes

pub counts_more : (t : ℕ) (a b c : Memory) → AreWithin (OfCounts t) b.size → ChangesTo (OfCounts t) a b
    → WritesAll (OfCounts t) a b → ChangesTo (IsGiven (log_head_line t) 0 0) b c → WritesAll (IsGiven (log_head_line t) 0 0) b c
    → WritesAll (OfCounts (t + 1)) a c
counts_more t a b c within before so_far changes count =
    wrote_both (OfCounts t) (IsGiven (log_head_line t) 0 0) (OfCounts (t + 1)) a c
    (λ l w v given. ⊎_elim
    (λ (low : given.0 < t). inl (given.0, low, given.2, given.3, given.4))
    (λ (high : t ≤ given.0). inr (omega (arith, high, given.1, given.2), given.3, given.4))
    (cases_lt given.0 t))
    (still_wrote (OfCounts t) (IsGiven (log_head_line t) 0 0) a b c (λ l w v x low high. omega (arith, low.1, low.2, high.0)) changes
    (OfCounts t) before within so_far)
    (wrote_after (OfCounts t) (IsGiven (log_head_line t) 0 0) a b c before count)

-- the changes so far
pub lines_changes : (from to : ℕ) (a b c : Memory) → from ≤ to → ChangesTo (OfLines from to) a b → ChangesTo (OfLines to (to + 1)) b c
    → ChangesTo (OfLines from (to + 1)) a c
lines_changes from to a b c some before changes =
    changes_more (OfLines from (to + 1)) a b c
    (changes_weaker (OfLines from to) (OfLines from (to + 1)) a b (λ l w v given. (given.0, omega (arith, given.1), given.2, given.3)) before)
    (changes_weaker (OfLines to (to + 1)) (OfLines from (to + 1)) b c (λ l w v given. (omega (arith, given.0, some), given.1, given.2, given.3)) changes)

pub counts_changes : (t : ℕ) (a b c : Memory) → ChangesTo (OfCounts t) a b → ChangesTo (IsGiven (log_head_line t) 0 0) b c
    → ChangesTo (OfCounts (t + 1)) a c
counts_changes t a b c before changes =
    changes_more (OfCounts (t + 1)) a b c
    (changes_weaker (OfCounts t) (OfCounts (t + 1)) a b (λ l w v given. (given.0, omega (arith, given.1), given.2, given.3, given.4)) before)
    (changes_weaker (IsGiven (log_head_line t) 0 0) (OfCounts (t + 1)) b c (λ l w v given. (t, omega arith, given.0, given.1, given.2)) changes)

pub counts_of_logs : (t : ℕ) (a b : Memory) → t ≤ logs → ChangesTo (OfCounts t) a b → ChangesTo (OfCounts logs) a b
counts_of_logs t a b few changes =
    changes_weaker (OfCounts t) (OfCounts logs) a b (λ l w v given. (given.0, omega (arith, given.1, few), given.2, given.3, given.4)) changes

-- the words of the superblock, one after another
pub superblock_changes : (size : ℕ) (a b c d : Memory) → ChangesTo (IsGiven 0 1 version) a b → ChangesTo (IsGiven 0 2 size) b c
    → ChangesTo (IsGiven 0 3 0) c d → ChangesTo (OfSuperblock size) a d
superblock_changes size a b c d one two three =
    let Gives = OfSuperblock size in
    changes_more Gives a c d
    (changes_more Gives a b c
    (changes_weaker (IsGiven 0 1 version) Gives a b (λ l w v given. (given.0, inl (given.1, given.2))) one)
    (changes_weaker (IsGiven 0 2 size) Gives b c (λ l w v given. (given.0, inr (inl (given.1, given.2)))) two))
    (changes_weaker (IsGiven 0 3 0) Gives c d (λ l w v given. (given.0, inr (inr (given.1, given.2)))) three)

pub superblock_shown : (size : ℕ) (m : Memory) → shown m 0 1 ≡ version → shown m 0 2 ≡ size → shown m 0 3 ≡ 0 → (l w v : ℕ)
    → OfSuperblock size l w v → shown m l w ≡ v
superblock_shown size m one two three l w v given = rw given.0 (⊎_elim
    (λ (first : (w ≡ 1) × (v ≡ version)). rw (first.0, first.1) one)
    (λ other. ⊎_elim
    (λ (second : (w ≡ 2) × (v ≡ size)). rw (second.0, second.1) two)
    (λ (third : (w ≡ 3) × (v ≡ 0)). rw (third.0, third.1) three)
    other)
    given.1)

-- three words are put
pub same_thrice : (a b c d : Memory) → SameImage a b → SameImage b c → SameImage c d → SameImage a d
same_thrice a b c d one two three = record {
  calls = three.calls ∙ two.calls ∙ one.calls;
  image = three.image ∙ two.image ∙ one.image;
  faults = three.faults ∙ two.faults ∙ one.faults;
}

-- ---- root slots and counts of logs, and a fence

pub of_slots : (a b : Memory) → ChangesTo OfSlots a b → ChangesTo OfCleared a b
of_slots a b changes = changes_weaker OfSlots OfCleared a b (λ l w v given. inl given) changes

pub slots_counts : (a b c : Memory) → ChangesTo OfSlots a b → ChangesTo (OfCounts logs) b c → ChangesTo OfCleared a c
slots_counts a b c slots counts =
    changes_more OfCleared a b c (of_slots a b slots) (changes_weaker (OfCounts logs) OfCleared b c (λ l w v given. inr given) counts)

pub cleared_changes : (a b c d : Memory) → ChangesTo OfSlots a b → ChangesTo (OfCounts logs) b c → ChangesTo Nothing c d
    → ChangesTo OfCleared a d
cleared_changes a b c d slots counts fence =
    changes_more OfCleared a c d (slots_counts a b c slots counts) (changes_nowhere OfCleared c d fence)

module _ (a b c d : Memory) (enough : min_lines ≤ a.size) (slots : ChangesTo OfSlots a b) (counts : ChangesTo (OfCounts logs) b c)
    (fence : ChangesTo Nothing c d) where
  wrote_c : WritesAll OfSlots a b → WritesAll (OfCounts logs) b c → WritesAll OfCleared a c
  wrote_c slot count =
      wrote_both OfSlots (OfCounts logs) OfCleared a c (λ l w v given. given)
      (still_wrote OfSlots (OfCounts logs) a b c (slots_no_count logs) counts OfSlots slots
      (slots_within b.size (omega (arith, enough, slots.size))) slot)
      (wrote_after OfSlots (OfCounts logs) a b c slots count)

  within_c : AreWithin OfCleared c.size
  within_c = cleared_within c.size (omega (arith, enough, slots.size, counts.size))

  pub cleared_wrote : WritesAll OfSlots a b → WritesAll (OfCounts logs) b c → WritesAll OfCleared a d
  cleared_wrote slot count = fenced_wrote OfCleared a c d (slots_counts a b c slots counts) within_c (wrote_c slot count) fence

  pub cleared_fixed : WritesAll OfSlots a b → WritesAll (OfCounts logs) b c → ((l w : ℕ) → IsWritten c l w → IsDurable d l w) → Tells a
      → AllFixed OfCleared d
  cleared_fixed slot count durable tells =
      fence_wrote OfCleared OfCleared a c d (slots_counts a b c slots counts) within_c (wrote_c slot count) fence durable tells

-- ---- the front: these, the superblock, and a fence

module _ (size : ℕ) (a d e : Memory) (enough : min_lines ≤ a.size) (cleared : ChangesTo OfCleared a d)
    (super : ChangesTo (OfSuperblock size) d e) where
  pub of_cleared : ChangesTo (OfFront size) a d
  of_cleared = changes_weaker OfCleared (OfFront size) a d (λ l w v given. inl given) cleared

  pub front_changes : ChangesTo (OfFront size) a e
  front_changes =
      changes_more (OfFront size) a d e of_cleared (changes_weaker (OfSuperblock size) (OfFront size) d e (λ l w v given. inr given) super)

  front_wrote : WritesAll OfCleared a d → WritesAll (OfSuperblock size) d e → WritesAll (OfFront size) a e
  front_wrote first superblock =
      wrote_both OfCleared (OfSuperblock size) (OfFront size) a e (λ l w v given. given)
      (still_wrote OfCleared (OfSuperblock size) a d e (cleared_no_superblock size) super OfCleared cleared
      (cleared_within d.size (omega (arith, enough, cleared.size))) first)
      (wrote_after OfCleared (OfSuperblock size) a d e cleared superblock)

  within_e : AreWithin (OfFront size) e.size
  within_e = front_within e.size (omega (arith, enough, cleared.size, super.size)) size

  -- and after the last fence
  module _ (f : Memory) (last : ChangesTo Nothing e f) where
    pub fenced_changes : ChangesTo (OfFront size) a f
    fenced_changes = changes_more (OfFront size) a e f front_changes (changes_nowhere (OfFront size) e f last)

    pub front_done : WritesAll OfCleared a d → WritesAll (OfSuperblock size) d e → WritesAll (OfFront size) a f
    front_done first superblock = fenced_wrote (OfFront size) a e f front_changes within_e (front_wrote first superblock) last

    pub front_fixed : WritesAll OfCleared a d → WritesAll (OfSuperblock size) d e → ((l w : ℕ) → IsWritten e l w → IsDurable f l w)
        → Tells a → AllFixed (OfFront size) f
    front_fixed first superblock durable tells =
        fence_wrote (OfFront size) (OfFront size) a e f front_changes within_e (front_wrote first superblock) last durable tells

-- the superblock is one of this size
pub superblock_sized : (a d e : Memory) → d.size ≡ a.size → ChangesTo (OfSuperblock d.size) d e → ChangesTo (OfSuperblock a.size) d e
superblock_sized a d e same changes = subst (λ (n : ℕ). ChangesTo (OfSuperblock n) d e) same changes

pub superblock_wrote : (a d e : Memory) → d.size ≡ a.size → WritesAll (OfSuperblock d.size) d e → WritesAll (OfSuperblock a.size) d e
superblock_wrote a d e same wrote = subst (λ (n : ℕ). WritesAll (OfSuperblock n) d e) same wrote

-- ---- the magic word

-- what the words say once all of them are given their values
pub formatted_by : (size : ℕ) (words : Words) → words 0 0 ≡ magic → ((l w v : ℕ) → OfFront size l w v → words l w ≡ v)
    → IsFormatted size words
formatted_by size words first front = record {
  begins = first;
  layout = front 0 1 version (inr (refl, inl (refl, refl)));
  lines = front 0 2 size (inr (refl, inr (inl (refl, refl))));
  used = front 0 3 0 (inr (refl, inr (inr (refl, refl))));
  slots = λ r below. front (slot_line r) (slot_word r) 0 (inl (inl (omega arith, omega (arith, below), omega arith, refl)));
  logs = λ t below. front (log_head_line t) 0 0 (inl (inr (t, below, refl, refl, refl)));
}

module _ (size : ℕ) (a b c d : Memory) (enough : min_lines ≤ a.size) (front : ChangesTo (OfFront size) a b)
    (mark : ChangesTo (IsGiven 0 0 magic) b c) where
  of_front : ChangesTo (OfLayout size) a b
  of_front = changes_weaker (OfFront size) (OfLayout size) a b (λ l w v given. inl given) front

  pub marked_changes : ChangesTo (OfLayout size) a c
  marked_changes = changes_more (OfLayout size) a b c of_front
      (changes_weaker (IsGiven 0 0 magic) (OfLayout size) b c (λ l w v given. inr given) mark)

  pub marked_wrote : WritesAll (OfFront size) a b → WritesAll (IsGiven 0 0 magic) b c → WritesAll (OfLayout size) a c
  marked_wrote wrote first =
      wrote_both (OfFront size) (IsGiven 0 0 magic) (OfLayout size) a c (λ l w v given. given)
      (still_wrote (OfFront size) (IsGiven 0 0 magic) a b c (front_behind size) mark (OfFront size) front
      (front_within b.size (omega (arith, enough, front.size)) size) wrote)
      (wrote_after (OfFront size) (IsGiven 0 0 magic) a b c front first)

  pub formatted_shown : (known : AllKnown a) → WritesAll (OfLayout size) a d → IsFormatted size (shown d)
  formatted_shown known wrote =
      formatted_by size (shown d) (wrote.shows known 0 0 magic (inr (refl, refl, refl)))
      (λ l w v given. wrote.shows known l w v (inl given))

  -- and after the last fence
  pub marked_fenced : ChangesTo Nothing c d → ChangesTo (OfLayout size) a d
  marked_fenced fence = changes_more (OfLayout size) a c d marked_changes (changes_nowhere (OfLayout size) c d fence)

  enough_c : min_lines ≤ c.size
  enough_c = omega (arith, enough, front.size, mark.size)

  pub marked_shown : ChangesTo Nothing c d → WritesAll (OfFront size) a b → WritesAll (IsGiven 0 0 magic) b c → AllKnown a
      → IsFormatted size (shown d)
  marked_shown fence wrote first known =
      formatted_shown known (fenced_wrote (OfLayout size) a c d marked_changes (layout_within c.size enough_c size) (marked_wrote wrote first) fence)

  pub marked_fixed : ChangesTo Nothing c d → WritesAll (OfFront size) a b → WritesAll (IsGiven 0 0 magic) b c
      → ((l w : ℕ) → IsWritten c l w → IsDurable d l w) → Tells a → AllFixed (OfLayout size) d
  marked_fixed fence wrote first durable tells =
      fence_wrote (OfLayout size) (OfLayout size) a c d marked_changes (layout_within c.size enough_c size) (marked_wrote wrote first)
      fence durable tells

pub front_of_layout : (size : ℕ) (a b : Memory) → ChangesTo (OfFront size) a b → ChangesTo (OfLayout size) a b
front_of_layout size a b front = changes_weaker (OfFront size) (OfLayout size) a b (λ l w v given. inl given) front

pub fence_behind : (a b c : Memory) → ChangesTo (IsGiven 0 0 magic) a b → ChangesTo Nothing b c → ChangesTo (IsGiven 0 0 magic) a c
fence_behind a b c mark fence = changes_more (IsGiven 0 0 magic) a b c mark (changes_nowhere (IsGiven 0 0 magic) b c fence)

-- ---- stops

first_left : (size : ℕ) → IsLeft (OfFront size) 0 0
first_left size v given = front_behind size 0 0 v magic given (refl, refl, refl)

module _ (size : ℕ) (a b : Memory) (blank : IsFixed a 0 0 0) (front : ChangesTo (OfFront size) a b) where
  pub front_stops : StopsLeave a b (IsBlankOrFormatted size)
  front_stops =
      changes_stops (OfFront size) a b (IsBlankOrFormatted size) front
      (λ k all. inl (left_fixed (OfFront size) a k 0 0 0 all (first_left size) blank))

  still_blank : IsFixed b 0 0 0
  still_blank = stays_fixed (OfFront size) a b 0 0 0 front (first_left size) blank

  pub layout_stops : (c : Memory) → AllFixed (OfFront size) b → ChangesTo (IsGiven 0 0 magic) b c
      → StopsLeave a c (IsBlankOrFormatted size)
  layout_stops c fixed mark =
      stops_then a b c (IsBlankOrFormatted size) front_stops
      (changes_stops (IsGiven 0 0 magic) b c (IsBlankOrFormatted size) mark
      (λ k all. ⊎_elim
      (λ was. inl (still_blank (k 0 0) was))
      (λ given. inr (formatted_by size k given.2
      (left_as_fixed (OfFront size) (IsGiven 0 0 magic) a b c (front_behind size) mark k all fixed)))
      (all 0 0)))

-- ---- the order

-- while root slots and counts are cleared, the superblock is as it was
pub clearing_stops : (a b : Memory) → ChangesTo OfCleared a b → StopsLeave a b (IsCleared a)
clearing_stops a b changes =
    changes_stops OfCleared a b (IsCleared a) changes
    (λ k all. inl (λ w some few. ⊎_elim
    (λ was. was)
    (λ given. absurd (omega (arith, behind_superblock 0 w (k 0 w) given)))
    (all 0 w)))

-- and then they are cleared, whatever else is stored
pub then_stops : (Gives : ℕ → ℕ → ℕ → Type 0) (a b c : Memory) → AreApart OfCleared Gives → StopsLeave a b (IsCleared a)
    → AllFixed OfCleared b → ChangesTo Gives b c → StopsLeave a c (IsCleared a)
then_stops Gives a b c apart before fixed changes =
    stops_then a b c (IsCleared a) before
    (changes_stops Gives b c (IsCleared a) changes (λ k all. inr (left_as_fixed OfCleared Gives a b c apart changes k all fixed)))

pub super_stops : (size : ℕ) (a b c : Memory) → ChangesTo OfCleared a b → AllFixed OfCleared b → ChangesTo (OfSuperblock size) b c
    → StopsLeave a c (IsCleared a)
super_stops size a b c cleared fixed changes =
    then_stops (OfSuperblock size) a b c (cleared_no_superblock size) (clearing_stops a b cleared) fixed changes

pub mark_stops : (size : ℕ) (a b c : Memory) → StopsLeave a b (IsCleared a) → AllFixed (OfFront size) b
    → ChangesTo (IsGiven 0 0 magic) b c → StopsLeave a c (IsCleared a)
mark_stops size a b c before fixed mark =
    then_stops (IsGiven 0 0 magic) a b c
    (λ l w v x given first. front_behind size l w v x (inl given) first)
    before (λ l w v given. fixed l w v (inl given)) mark
