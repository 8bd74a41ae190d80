-- Words that are written line by line.
use Rattle.std.proofs.Common.{◌≡◌, ◌⊎◌, inl, inr, ⊎_elim, ◌<◌, ◌≤◌, ◌+◌, ◌-◌, ◌*◌, ℕ, List, drop, refl, sym, ◌∙◌, ap, subst, arith, slice_index_or}
use Rattle.std.proofs.lemmas.Bool.{cases_lt}
use Rattle.std.proofs.lemmas.List.{get_or-drop}
use Rattle.line_memory.specs.Memory.{Memory, shown, SameImage, SameResident}
use Rattle.word_changes.specs.Changes.{Nothing, IsGiven, ChangesTo, WritesAll}
use Rattle.word_changes.proofs.Changing.{changes_nothing, changes_weaker, changes_more}
use Rattle.word_changes.proofs.Writing.{AreWithin, AreApart, still_wrote, wrote_after, wrote_both}
use Rattle.image_layout.specs.Places.{magic, version}
use Rattle.image_compact.specs.Writing.{OfWords, OfSuperblock}

-- ---- one after another

module _ (First Second Both : ℕ → ℕ → ℕ → Type 0) (a b c : Memory) (first : ChangesTo First a b) (second : ChangesTo Second b c) where
  pub both_change : ((l w v : ℕ) → First l w v → Both l w v) → ((l w v : ℕ) → Second l w v → Both l w v) → ChangesTo Both a c
  both_change one other =
      changes_more Both a b c (changes_weaker First Both a b one first) (changes_weaker Second Both b c other second)

  pub both_wrote : ((l w v : ℕ) → Both l w v → First l w v ⊎ Second l w v) → AreApart First Second → AreWithin First b.size
      → WritesAll First a b → WritesAll Second b c → WritesAll Both a c
  both_wrote either apart within wrote more =
      wrote_both First Second Both a c either
      (still_wrote First Second a b c apart second First first within wrote)
      (wrote_after First Second a b c first more)

pub nothing_apart : (Gives : ℕ → ℕ → ℕ → Type 0) → AreApart Gives Nothing
nothing_apart Gives l w v x given none = none

-- a fence behind what was written
pub fenced_wrote : (Gives : ℕ → ℕ → ℕ → Type 0) (a b c : Memory) → ChangesTo Gives a b → AreWithin Gives b.size → WritesAll Gives a b
    → ChangesTo Nothing b c → WritesAll Gives a c
fenced_wrote Gives a b c before within wrote fence = still_wrote Gives Nothing a b c (nothing_apart Gives) fence Gives before within wrote

-- ---- a word, and a line

-- a word that was put shows its value
pub given_shown : (line word v : ℕ) (m : Memory) → shown m line word ≡ v → (l w x : ℕ) → IsGiven line word v l w x → shown m l w ≡ x
given_shown line word v m shows l w x given = rw (given.0, given.1, given.2) shows

pub line_shown : (words : List ℕ) (line : ℕ) (m : Memory) → ((w : ℕ) → w < 8 → shown m line w ≡ slice_index_or words w 0) → (l w v : ℕ)
    → OfWords words line 1 l w v → shown m l w ≡ v
line_shown words line m shows l w v given =
    let at : l ≡ line = omega (arith, given.0, given.1) in
    let place : 8 * (l - line) + w ≡ w = omega (arith, given.0, given.1) in
    rw at (shows w given.2 ∙ ap (λ k. slice_index_or words k 0) (sym place) ∙ sym given.3)

-- one word more of a line
pub word_of_line : (words : List ℕ) (line word value : ℕ) (a b c : Memory) → word < 8 → value ≡ slice_index_or words word 0
    → ChangesTo (OfWords words line 1) a b → ChangesTo (IsGiven line word value) b c → ChangesTo (OfWords words line 1) a c
word_of_line words line word value a b c below is so_far put =
    changes_more (OfWords words line 1) a b c so_far
    (changes_weaker (IsGiven line word value) (OfWords words line 1) b c
    (λ l w v given.
    let place : 8 * (l - line) + w ≡ word = omega (arith, given.0, given.1) in (
      omega (arith, given.0),
      omega (arith, given.0),
      omega (arith, given.1, below),
      given.2 ∙ is ∙ ap (λ k. slice_index_or words k 0) (sym place),
    )) put)

-- ---- lines

-- no line
pub no_lines : (words : List ℕ) (from : ℕ) (m : Memory) → WritesAll (OfWords words from 0) m m
no_lines words from m = record {
  shows = λ known l w v given. absurd (omega (arith, given.0, given.1));
  written = λ tells l w v given. absurd (omega (arith, given.0, given.1));
}

module _ (words rest : List ℕ) (from i : ℕ)
    (same : (w : ℕ) → w < 8 → slice_index_or rest w 0 ≡ slice_index_or words (8 * i + w) 0) where
  -- the words of line i are those behind the lines before it
  pub next_of : (l w v : ℕ) → OfWords rest (from + i) 1 l w v → OfWords words from (i + 1) l w v
  next_of l w v given =
      let first : 8 * (l - (from + i)) + w ≡ w = omega (arith, given.0, given.1) in
      let place : 8 * i + w ≡ 8 * (l - from) + w = omega (arith, given.0, given.1) in (
        omega (arith, given.0),
        omega (arith, given.1),
        given.2,
        given.3 ∙ ap (λ k. slice_index_or rest k 0) first ∙ same w given.2 ∙ ap (λ k. slice_index_or words k 0) place,
      )

  pub of_next : (l w v : ℕ) → OfWords words from (i + 1) l w v → OfWords words from i l w v ⊎ OfWords rest (from + i) 1 l w v
  of_next l w v given = elim (cases_lt l (from + i)) [
    | inl low ↦ inl (given.0, low, given.2, given.3)
    | inr high ↦ (
        let first : 8 * (l - (from + i)) + w ≡ w = omega (arith, high, given.1) in
        let place : 8 * i + w ≡ 8 * (l - from) + w = omega (arith, high, given.1) in
        inr (
          high,
          omega (arith, given.1),
          given.2,
          given.3 ∙ sym (ap (λ k. slice_index_or rest k 0) first ∙ same w given.2 ∙ ap (λ k. slice_index_or words k 0) place),
        ))
  ]

  pub next_apart : AreApart (OfWords words from i) (OfWords rest (from + i) 1)
  next_apart l w v x low high = omega (arith, low.1, high.0)

-- the lines before line n
pub before_of : (words : List ℕ) (from i n : ℕ) → i ≤ n → (l w v : ℕ) → OfWords words from i l w v → OfWords words from n l w v
before_of words from i n few l w v given = (given.0, omega (arith, given.1, few), given.2, given.3)

-- the words behind those of i lines
pub behind_same : (words rest : List ℕ) (i : ℕ) → rest ≡ drop (8 * i) words → (w : ℕ) → w < 8
    → slice_index_or rest w 0 ≡ slice_index_or words (8 * i + w) 0
behind_same words rest i is w below = ap (λ (l : List ℕ). slice_index_or l w 0) is ∙ get_or-drop (8 * i) words w 0

-- ---- the same by equal words and places

pub changes_as : (ws vs : List ℕ) (f g m n : ℕ) (a b : Memory) → ws ≡ vs → f ≡ g → m ≡ n → ChangesTo (OfWords ws f m) a b
    → ChangesTo (OfWords vs g n) a b
changes_as ws vs f g m n a b words from count changes = rw (← words, ← from, ← count) changes

pub wrote_as : (ws vs : List ℕ) (f g m n : ℕ) (a b : Memory) → ws ≡ vs → f ≡ g → m ≡ n → WritesAll (OfWords ws f m) a b
    → WritesAll (OfWords vs g n) a b
wrote_as ws vs f g m n a b words from count wrote = rw (← words, ← from, ← count) wrote

pub words_within : (words : List ℕ) (from count size : ℕ) → from + count ≤ size → AreWithin (OfWords words from count) size
words_within words from count size few l w v given = omega (arith, given.1, few)

-- three words are put
pub same_thrice : (a b c d : Memory) → SameImage a b → SameImage b c → SameImage c d → SameImage a d
same_thrice a b c d one two three = record {
  calls = three.calls ∙ two.calls ∙ one.calls;
  image = three.image ∙ two.image ∙ one.image;
  faults = three.faults ∙ two.faults ∙ one.faults;
}

-- ---- words 1 to 3 of the superblock

module _ (size used : ℕ) where
  pub superblock_changes : (a b c d : Memory) → ChangesTo (IsGiven 0 1 version) a b → ChangesTo (IsGiven 0 2 size) b c
      → ChangesTo (IsGiven 0 3 used) c d → ChangesTo (OfSuperblock size used) a d
  superblock_changes a b c d one two three =
      let Gives = OfSuperblock size used in
      changes_more Gives a c d
      (changes_more Gives a b c
      (changes_weaker (IsGiven 0 1 version) Gives a b (λ l w v given. (given.0, inl (given.1, given.2))) one)
      (changes_weaker (IsGiven 0 2 size) Gives b c (λ l w v given. (given.0, inr (inl (given.1, given.2)))) two))
      (changes_weaker (IsGiven 0 3 used) Gives c d (λ l w v given. (given.0, inr (inr (given.1, given.2)))) three)

  pub superblock_shown : (m : Memory) → shown m 0 1 ≡ version → shown m 0 2 ≡ size → shown m 0 3 ≡ used → (l w v : ℕ)
      → OfSuperblock size used l w v → shown m l w ≡ v
  superblock_shown m one two three l w v given = rw given.0 (⊎_elim
      (λ (first : (w ≡ 1) × (v ≡ version)). rw (first.0, first.1) one)
      (λ other. ⊎_elim
      (λ (second : (w ≡ 2) × (v ≡ size)). rw (second.0, second.1) two)
      (λ (third : (w ≡ 3) × (v ≡ used)). rw (third.0, third.1) three)
      other)
      given.1)

pub mark_within : (size : ℕ) → 0 < size → AreWithin (IsGiven 0 0 magic) size
mark_within size some l w v given = omega (arith, given.0, some)

-- the superblock of this size, and of this directory
pub super_changes_as : (s t m n : ℕ) (a b : Memory) → s ≡ t → m ≡ n → ChangesTo (OfSuperblock s m) a b → ChangesTo (OfSuperblock t n) a b
super_changes_as s t m n a b size used changes = rw (← size, ← used) changes

pub super_wrote_as : (s t m n : ℕ) (a b : Memory) → s ≡ t → m ≡ n → WritesAll (OfSuperblock s m) a b → WritesAll (OfSuperblock t n) a b
super_wrote_as s t m n a b size used wrote = rw (← size, ← used) wrote
