-- The steps of one entry.
use Rattle.std.proofs.Common.{◌≡◌, ◌⊎◌, inl, inr, ⊎_elim, ◌<◌, ◌≤◌, ◌+◌, ℕ, List, Option, Some, None, Result, Ok, Err, OnErr}
use Rattle.std.proofs.Common.{length, slice_index_or, sym, ◌∙◌, subst, arith}
use Rattle.std.proofs.lemmas.Bool.{cases_lt}
use Rattle.line_image.specs.Trace.{Trace, Outcome}
use Rattle.line_memory.specs.Memory.{Memory, shown, IsTelling, ReadsWord, IsWritten, IsDurable}
use Rattle.image_layout.specs.Places.{min_lines, directory_words, directory_line, directory_word}
use Rattle.word_changes.specs.Changes.{AllKnown, IsFixed, IsWrittenAs, Nothing, IsGiven, IsLeft, OldOrGiven, ChangesTo}
use Rattle.word_changes.specs.Changes.{StopsLeave}
use Rattle.word_changes.proofs.Changing.{stays_fixed, left_fixed, changes_stops, changes_nowhere, changes_more, changes_weaker}
use Rattle.word_changes.proofs.Going.{changes_silent}
use Rattle.directories.specs.declared.stepping.Progress.{Progress}
use Rattle.directories.specs.declared.stepping.Progress.TheVariants.{Words, Fenced, Raised}
use Rattle.directories.specs.Appending.{OfWords, OfEntry, AreWritten, AreFixed, IsRaising, HasCome, IsIn, OldOrWhole}

-- ---- what is known

reads_any : (o : Option Trace) (l w v : ℕ) → ¬ IsTelling o → ReadsWord o l w v
reads_any None l w v silent = tt
reads_any (Some h) l w v silent = absurd (silent tt)

tells_or_not : (o : Option Trace) → IsTelling o ⊎ (¬ IsTelling o)
tells_or_not None = inr (λ tells. tells)
tells_or_not (Some h) = inl tt

-- a word outside the changes that is written back is so still, whether the image tells or not
still_written : (Gives : ℕ → ℕ → ℕ → Type 0) (old new : Memory) (l w v : ℕ) → ChangesTo Gives old new → AllKnown old → l < old.size
    → IsLeft Gives l w → IsWrittenAs old l w v → IsWrittenAs new l w v
still_written Gives old new l w v changes known below out was = record {
  shows = changes.shows known l w below out ∙ was.shows;
  written = ⊎_elim
      (λ tells. changes.written tells l w below out was.written)
      (λ silent. reads_any new.image.trace l w (shown new l w) (λ tells. silent (changes_silent Gives old new changes tells)))
      (tells_or_not old.image.trace);
}

-- a fence makes what is written back fixed
fence_fixed : (old new : Memory) (l w v : ℕ) → ChangesTo Nothing old new → AllKnown old → l < old.size
    → ((line word : ℕ) → IsWritten old line word → IsDurable new line word) → IsWrittenAs old l w v → IsFixed new l w v
fence_fixed old new l w v changes known below durable was x left =
    durable l w was.written x left ∙ changes.shows known l w below (λ v none. none) ∙ was.shows

-- what holds at the exit of a failed call
pub at_failure : {T E : Type 0} (r : Result T E) (P : Type 0) → P → OnErr r P
at_failure (Ok x) P p = tt
at_failure (Err e) P p = p

-- ---- words apart

-- the number of words in use isn't a word of an entry
count_left : (used from to : ℕ) (words : List ℕ) → IsLeft (OfWords used words from to) 0 3
count_left used from to words v given = omega (arith, given.3)

-- an entry's other words are none of these
word_left : (used from to i : ℕ) (words : List ℕ) → i < from
    → IsLeft (OfWords used words from to) (directory_line (used + i)) (directory_word (used + i))
word_left used from to i words before v given = omega (arith, before, given.1, given.3, given.4)

-- nor is an entry's word the number of words in use
entry_left : (used i to : ℕ) → IsLeft (IsGiven 0 3 to) (directory_line (used + i)) (directory_word (used + i))
entry_left used i to v given = omega (arith, given.0)

nothing_left : (l w : ℕ) → IsLeft Nothing l w
nothing_left l w v none = none

module _ (used : ℕ) (words : List ℕ) (room : used + length words ≤ directory_words) where
  -- ---- what holds over steps that don't concern it

  module _ (Gives : ℕ → ℕ → ℕ → Type 0) (old new : Memory) (changes : ChangesTo Gives old new) where
    fixed_on : ((i : ℕ) → i < length words → IsLeft Gives (directory_line (used + i)) (directory_word (used + i)))
        → AreFixed used words old → AreFixed used words new
    fixed_on left fixed i below = stays_fixed Gives old new _ _ _ changes (left i below) (fixed i below)

    written_on : (n : ℕ) → n ≤ length words → min_lines ≤ old.size → AllKnown old
        → ((i : ℕ) → i < n → IsLeft Gives (directory_line (used + i)) (directory_word (used + i)))
        → AreWritten used words n old → AreWritten used words n new
    written_on n few enough known left written i below =
        still_written Gives old new _ _ _ changes known (omega (arith, room, enough, below, few)) (left i below) (written i below)

  raising_on : (old new : Memory) → ChangesTo (IsGiven 0 3 (used + length words)) old new → IsRaising used words old
      → IsRaising used words new
  raising_on old new changes raising x left = ⊎_elim (λ was. raising x was) (λ put. inr put.2) (changes.leaves 0 3 x left)

  module _ (old new : Memory) (enough : min_lines ≤ old.size) (known : AllKnown old) where
    pub nothing_comes : (progress : Progress) → ChangesTo Nothing old new → HasCome progress used words old
        → HasCome progress used words new
    nothing_comes (Words n) changes come = (
      come.0,
      stays_fixed Nothing old new 0 3 used changes (nothing_left 0 3) come.1,
      written_on Nothing old new changes n come.0 enough known (λ i below. nothing_left (directory_line (used + i)) (directory_word (used + i))) come.2,
    )
    nothing_comes Fenced changes come = (
      raising_on old new (changes_nowhere (IsGiven 0 3 (used + length words)) old new changes) come.0,
      fixed_on Nothing old new changes (λ i below. nothing_left (directory_line (used + i)) (directory_word (used + i))) come.1,
    )
    nothing_comes Raised changes come = (
      raising_on old new (changes_nowhere (IsGiven 0 3 (used + length words)) old new changes) come.0,
      fixed_on Nothing old new changes (λ i below. nothing_left (directory_line (used + i)) (directory_word (used + i))) come.1,
      still_written Nothing old new 0 3 _ changes known (omega (arith, enough)) (nothing_left 0 3) come.2,
    )

    -- words behind the first n are stored
    pub stores_come : (n to : ℕ) → ChangesTo (OfWords used words n to) old new → HasCome (Words n) used words old
        → HasCome (Words n) used words new
    stores_come n to changes come = (
      come.0,
      stays_fixed (OfWords used words n to) old new 0 3 used changes (count_left used n to words) come.1,
      written_on (OfWords used words n to) old new changes n come.0 enough known (λ i below. word_left used n to i words below) come.2,
    )

    -- their line is written back
    pub written_come : (n to : ℕ) → to ≤ length words → ChangesTo Nothing old new
        → ((i : ℕ) → n ≤ i → i < to → directory_line (used + i) ≡ directory_line (used + n))
        → ((i : ℕ) → n ≤ i → i < to → shown old (directory_line (used + i)) (directory_word (used + i)) ≡ slice_index_or words i 0)
        → ((w : ℕ) → IsWritten new (directory_line (used + n)) w)
        → HasCome (Words n) used words old → HasCome (Words to) used words new
    written_come n to few changes one_line shows written come =
        let before = nothing_comes (Words n) changes come in (
          few,
          before.1,
          λ i below. ⊎_elim
              (λ (low : i < n). before.2 i low)
              (λ (high : n ≤ i). record {
                shows = changes.shows known _ _ (omega (arith, room, enough, below, few)) (nothing_left (directory_line (used + i)) (directory_word (used + i)))
                    ∙ shows i high below;
                written = subst (λ (l : ℕ). IsWritten new l (directory_word (used + i))) (sym (one_line i high below))
                    (written (directory_word (used + i)));
              })
              (cases_lt i n),
        )

    -- a fence behind the last of them
    pub fenced_come : (n : ℕ) → length words ≤ n → ChangesTo Nothing old new
        → ((l w : ℕ) → IsWritten old l w → IsDurable new l w) → HasCome (Words n) used words old → HasCome Fenced used words new
    fenced_come n all changes durable come = (
      λ x left. inl (stays_fixed Nothing old new 0 3 used changes (nothing_left 0 3) come.1 x left),
      λ i below. fence_fixed old new _ _ _ changes known (omega (arith, room, enough, below)) durable
          (come.2 i (omega (arith, below, all))),
    )

    -- the number of words in use is stored
    pub raise_comes : ChangesTo (IsGiven 0 3 (used + length words)) old new → HasCome Fenced used words old
        → HasCome Fenced used words new
    raise_comes changes come = (
      raising_on old new changes come.0,
      fixed_on (IsGiven 0 3 (used + length words)) old new changes (λ i below. entry_left used i (used + length words)) come.1,
    )

    -- and its line is written back
    pub raised_comes : ChangesTo Nothing old new → shown old 0 3 ≡ used + length words → ((w : ℕ) → IsWritten new 0 w)
        → HasCome Fenced used words old → HasCome Raised used words new
    raised_comes changes shows written come =
        let after = nothing_comes Fenced changes come in (
          after.0,
          after.1,
          record {
            shows = changes.shows known 0 3 (omega (arith, enough)) (nothing_left 0 3) ∙ shows;
            written = written 3;
          },
        )

    -- and a last fence is made
    pub finished_comes : ChangesTo Nothing old new → ((l w : ℕ) → IsWritten old l w → IsDurable new l w)
        → HasCome Raised used words old → IsIn used words new
    finished_comes changes durable come = (
      fence_fixed old new 0 3 _ changes known (omega (arith, enough)) durable come.2,
      fixed_on Nothing old new changes (λ i below. nothing_left (directory_line (used + i)) (directory_word (used + i))) come.1,
    )

  -- ---- stops

  words_stop : (old : Memory) (n to : ℕ) (c : Outcome) → HasCome (Words n) used words old → OldOrGiven (OfWords used words n to) old c
      → OldOrWhole used words c
  words_stop old n to c come all = inl (left_fixed (OfWords used words n to) old c 0 3 used all (count_left used n to words) come.1)

  raise_stop : (old : Memory) (c : Outcome) → IsRaising used words old → AreFixed used words old
      → OldOrGiven (IsGiven 0 3 (used + length words)) old c → OldOrWhole used words c
  raise_stop old c raising fixed all =
      let to = used + length words in
      let there : (i : ℕ) → i < length words → c (directory_line (used + i)) (directory_word (used + i)) ≡ slice_index_or words i 0 =
      λ i below. left_fixed (IsGiven 0 3 to) old c _ _ _ all (entry_left used i to) (fixed i below) in
      let is : (c 0 3 ≡ used) ⊎ (c 0 3 ≡ to) = ⊎_elim (λ was. raising (c 0 3) was) (λ put. inr put.2) (all 0 3) in
      ⊎_elim (λ was. inl was) (λ raised. inr (raised, there)) is

  pub words_stops : (old new : Memory) (n to : ℕ) → HasCome (Words n) used words old → ChangesTo (OfWords used words n to) old new
      → StopsLeave old new (OldOrWhole used words)
  words_stops old new n to come changes =
      changes_stops (OfWords used words n to) old new (OldOrWhole used words) changes (λ c all. words_stop old n to c come all)

  pub raise_stops : (old new : Memory) → HasCome Fenced used words old → ChangesTo (IsGiven 0 3 (used + length words)) old new
      → StopsLeave old new (OldOrWhole used words)
  raise_stops old new come changes =
      changes_stops (IsGiven 0 3 (used + length words)) old new (OldOrWhole used words) changes
      (λ c all. raise_stop old c come.0 come.1 all)

  pub finish_stops : (old new : Memory) → HasCome Raised used words old → ChangesTo Nothing old new
      → StopsLeave old new (OldOrWhole used words)
  finish_stops old new come changes =
      raise_stops old new (come.0, come.1) (changes_nowhere (IsGiven 0 3 (used + length words)) old new changes)

-- ---- what they store

pub words_of_entry : (used n to : ℕ) (words : List ℕ) (old new : Memory) → to ≤ length words → ChangesTo (OfWords used words n to) old new
    → ChangesTo (OfEntry used words) old new
words_of_entry used n to words old new few changes =
    changes_weaker (OfWords used words n to) (OfEntry used words) old new
    (λ l w v given. inl (given.0, omega arith, omega (arith, given.2, few), given.3, given.4, given.5)) changes

pub count_of_entry : (used : ℕ) (words : List ℕ) (old new : Memory) → ChangesTo (IsGiven 0 3 (used + length words)) old new
    → ChangesTo (OfEntry used words) old new
count_of_entry used words old new changes =
    changes_weaker (IsGiven 0 3 (used + length words)) (OfEntry used words) old new (λ l w v given. inr given) changes

pub words_wider : (used from to most : ℕ) (words : List ℕ) (old new : Memory) → to ≤ most → ChangesTo (OfWords used words from to) old new
    → ChangesTo (OfWords used words from most) old new
words_wider used from to most words old new few changes =
    changes_weaker (OfWords used words from to) (OfWords used words from most) old new
    (λ l w v given. (given.0, given.1, omega (arith, given.2, few), given.3, given.4, given.5)) changes

-- ---- a line is ready, words are stored, and the line is written back

module _ (used : ℕ) (words : List ℕ) (room : used + length words ≤ directory_words) (old ready stored new : Memory)
    (enough : min_lines ≤ old.size) (first : ChangesTo Nothing old ready) (last : ChangesTo Nothing stored new) where
  enough_ready : min_lines ≤ ready.size
  enough_ready = omega (arith, enough, first.size)

  module _ (puts : ChangesTo (IsGiven 0 3 (used + length words)) ready stored) where
    enough_stored : min_lines ≤ stored.size
    enough_stored = omega (arith, enough, first.size, puts.size)

    pub raise_all : ChangesTo (IsGiven 0 3 (used + length words)) old new
    raise_all =
        let Gives = IsGiven 0 3 (used + length words) in
        changes_more Gives old stored new
        (changes_more Gives old ready stored (changes_nowhere Gives old ready first) puts)
        (changes_nowhere Gives stored new last)

    module _ (known : AllKnown old) (come : HasCome Fenced used words old) where
      pub raise_stored : HasCome Fenced used words stored
      raise_stored = raise_comes used words room ready stored enough_ready (first.known known) puts
          (nothing_comes used words room old ready enough known Fenced first come)

      pub raise_failed : HasCome Fenced used words new
      raise_failed = nothing_comes used words room stored new enough_stored (puts.known (first.known known)) Fenced last raise_stored

      pub raise_made : shown stored 0 3 ≡ used + length words → ((w : ℕ) → IsWritten new 0 w) → HasCome Raised used words new
      raise_made shows written = raised_comes used words room stored new enough_stored (puts.known (first.known known)) last shows written
          raise_stored

  module _ (n to : ℕ) (few : to ≤ length words) (puts : ChangesTo (OfWords used words n to) ready stored) where
    enough_put : min_lines ≤ stored.size
    enough_put = omega (arith, enough, first.size, puts.size)

    pub words_all : ChangesTo (OfWords used words n (length words)) old new
    words_all =
        let Gives = OfWords used words n to in
        words_wider used n to (length words) words old new few
        (changes_more Gives old stored new
        (changes_more Gives old ready stored (changes_nowhere Gives old ready first) puts)
        (changes_nowhere Gives stored new last))

    module _ (known : AllKnown old) (come : HasCome (Words n) used words old) where
      words_stored : HasCome (Words n) used words stored
      words_stored = stores_come used words room ready stored enough_ready (first.known known) n to puts
          (nothing_comes used words room old ready enough known (Words n) first come)

      pub words_failed : HasCome (Words n) used words new
      words_failed = nothing_comes used words room stored new enough_put (puts.known (first.known known)) (Words n) last words_stored

      pub words_made : ((i : ℕ) → n ≤ i → i < to → directory_line (used + i) ≡ directory_line (used + n))
          → ((i : ℕ) → n ≤ i → i < to → shown stored (directory_line (used + i)) (directory_word (used + i)) ≡ slice_index_or words i 0)
          → ((w : ℕ) → IsWritten new (directory_line (used + n)) w)
          → HasCome (Words to) used words new
      words_made one_line shows written =
          written_come used words room stored new enough_put (puts.known (first.known known)) n to few last one_line shows written
          words_stored

-- ---- one word more is stored

pub stored_more : (used from to i : ℕ) (words : List ℕ) (first before after : Memory) → from ≤ i → i < to
    → ChangesTo (OfWords used words from to) first before
    → ChangesTo (IsGiven (directory_line (used + i)) (directory_word (used + i)) (slice_index_or words i 0)) before after
    → ChangesTo (OfWords used words from to) first after
stored_more used from to i words first before after low high so_far puts =
    changes_more (OfWords used words from to) first before after so_far
    (changes_weaker (IsGiven (directory_line (used + i)) (directory_word (used + i)) (slice_index_or words i 0))
    (OfWords used words from to) before after
    (λ l w v given. (i, low, high, given.0, given.1, given.2)) puts)
