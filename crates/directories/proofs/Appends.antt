-- Entries that come into the directory one after another.
use Rattle.std.proofs.Common.{◌≡◌, inl, inr, ⊎_elim, ◌<◌, ◌≤◌, ◌+◌, ◌-◌, ◌/◌, ◌^◌, ℕ, List, [], ◌∷◌, ◌++◌, length, drop, take}
use Rattle.std.proofs.Common.{slice_index_or, refl, sym, ◌∙◌, ap, subst, append_assoc, arith}
use Rattle.std.proofs.lemmas.Bool.{cases_lt}
use Rattle.std.proofs.lemmas.List.{append-nil, drop-drop, length-append, length-drop, get_or_append_left, get_or-append-add}
use Rattle.std.proofs.Math.Seq.{take-append_seam, drop-append_seam}
use Rattle.line_image.specs.Trace.{Outcome}
use Rattle.line_memory.specs.Memory.{Memory}
use Rattle.line_memory.proofs.Chain.{goes_nowhere}
use Rattle.image_layout.specs.Places.{directory_line, directory_word}
use Rattle.image_meaning.specs.Entries.{DirectoryEntry, ShapeEntry, RootEntry, spelled}
use Rattle.image_meaning.specs.Directories.{spelled_all, Spells}
use Rattle.word_changes.specs.Changes.{IsFixed, IsLeft, OldOrGiven, ChangesTo, StopsLeave}
use Rattle.word_changes.proofs.Changing.{stays_fixed, left_fixed, changes_stops, stops_weaker}
use Rattle.directories.specs.declared.stepping.Progress.{Progress}
use Rattle.directories.specs.declared.stepping.Progress.TheVariants.{Words}
use Rattle.directories.specs.Appending.{OfEntry, HasCome, IsIn, OldOrWhole, calls_left}
use Rattle.directories.specs.Kept.{Kept, next_words, Stands, StandsOn, NextStands, HasSome, GoesIn, AreSpelled}

-- ---- words of entries

pub spelled_more : (had : List DirectoryEntry) (entry : DirectoryEntry) → spelled_all (had ++ entry ∷ []) ≡ spelled_all had ++ spelled entry
spelled_more [] entry = append-nil (spelled entry)
spelled_more (first ∷ had) entry =
    ap (λ (words : List ℕ). spelled first ++ words) (spelled_more had entry)
    ∙ sym (append_assoc (spelled first) (spelled_all had) (spelled entry))

-- an entry's first word tells how many words it has
pub entry_length : (entry : DirectoryEntry) (rest : List ℕ) → slice_index_or (spelled entry ++ rest) 0 0 / 2 ^ 32 ≡ length (spelled entry)
entry_length (ShapeEntry shape) rest = omega arith
entry_length (RootEntry name) rest = omega arith

-- what holds of each word of two lists, behind one another
each_of_both : (xs ys : List ℕ) (P : ℕ → ℕ → Type 0) → ((i : ℕ) → i < length xs → P i (slice_index_or xs i 0))
    → ((i : ℕ) → i < length ys → P (length xs + i) (slice_index_or ys i 0))
    → (i : ℕ) → i < length (xs ++ ys) → P i (slice_index_or (xs ++ ys) i 0)
each_of_both xs ys P first second i below = ⊎_elim
    (λ (low : i < length xs). subst (λ (v : ℕ). P i v) (sym (get_or_append_left xs ys 0 i low)) (first i low))
    (λ (high : length xs ≤ i).
    let at : length xs + (i - length xs) ≡ i = omega (arith, high) in
    let under : i - length xs < length ys = omega (arith, high, below, length-append xs ys) in
    subst (λ (k : ℕ). P k (slice_index_or (xs ++ ys) k 0)) at
    (subst (λ (v : ℕ). P (length xs + (i - length xs)) v) (sym (get_or-append-add xs ys (i - length xs) 0)) (second (i - length xs) under)))
    (cases_lt i (length xs))

-- ---- words that an entry leaves alone

old_left : (used i : ℕ) (words : List ℕ) → i < used → IsLeft (OfEntry used words) (directory_line i) (directory_word i)
old_left used i words below v (inl given) = omega (arith, below, given.3, given.4)
old_left used i words below v (inr given) = omega (arith, given.0)

-- ---- one entry

module _ (had : List DirectoryEntry) (kept : Kept) (entry : DirectoryEntry) (later : List DirectoryEntry) (old new : Memory)
    (left : kept.left ≡ entry ∷ later) (changes : ChangesTo (OfEntry kept.used (spelled entry)) old new) (stands : Stands had kept old) where
  come : HasCome kept.progress kept.used (spelled entry) old
  come = subst (λ (all : List DirectoryEntry). NextStands all kept.progress kept.used old) left stands.next

  words_stay : (i : ℕ) → i < length (spelled_all had)
      → IsFixed new (directory_line i) (directory_word i) (slice_index_or (spelled_all had) i 0)
  words_stay i below = stays_fixed (OfEntry kept.used (spelled entry)) old new (directory_line i) (directory_word i)
      (slice_index_or (spelled_all had) i 0) changes (old_left kept.used i (spelled entry) (omega (arith, below, stands.used))) (stands.words i below)

  pub comes_stands : (progress : Progress) → HasCome progress kept.used (spelled entry) new
      → Stands had (record kept { progress = progress }) new
  comes_stands progress next = record {
    known = changes.known stands.known;
    used = stands.used;
    words = words_stay;
    next = subst (λ (all : List DirectoryEntry). NextStands all progress kept.used new) (sym left) next;
  }

  next_begins : (all : List DirectoryEntry) → IsFixed new 0 3 (kept.used + length (spelled entry))
      → NextStands all (Words 0) (kept.used + length (spelled entry)) new
  next_begins [] fixed = (refl, fixed)
  next_begins (e ∷ all) fixed = (omega arith, fixed, λ i below. absurd (omega (arith, below)))

  pub in_stands : (next : Kept) → next.left ≡ later → next.used ≡ kept.used + length (spelled entry) → next.progress ≡ Words 0
      → IsIn kept.used (spelled entry) new → Stands (had ++ entry ∷ []) next new
  in_stands next after many begins here =
      let more = spelled_more had entry in
      let count : length (spelled_all had ++ spelled entry) ≡ length (spelled_all had) + length (spelled entry) =
      length-append (spelled_all had) (spelled entry) in
      let AllFixed = λ (words : List ℕ). (i : ℕ) → i < length words → IsFixed new (directory_line i) (directory_word i) (slice_index_or words i 0) in
      let behind : (i : ℕ) → i < length (spelled entry)
      → IsFixed new (directory_line (length (spelled_all had) + i)) (directory_word (length (spelled_all had) + i)) (slice_index_or (spelled entry) i 0) =
      subst (λ (n : ℕ). (i : ℕ) → i < length (spelled entry) → IsFixed new (directory_line (n + i)) (directory_word (n + i)) (slice_index_or (spelled entry) i 0))
      stands.used here.1 in
      record {
        known = changes.known stands.known;
        used = many ∙ ap (λ (n : ℕ). n + length (spelled entry)) stands.used ∙ sym count ∙ ap length (sym more);
        words = subst AllFixed (sym more)
            (each_of_both (spelled_all had) (spelled entry) (λ i v. IsFixed new (directory_line i) (directory_word i) v) words_stay behind);
        next = subst (λ (p : Progress). NextStands next.left p next.used new) (sym begins)
            (subst (λ (n : ℕ). NextStands next.left (Words 0) n new) (sym many) (next_begins next.left here.0));
      }

  both_spell : (c : Outcome) → OldOrGiven (OfEntry kept.used (spelled entry)) old c → OldOrWhole kept.used (spelled entry) c
      → HasSome had (entry ∷ later) c
  both_spell c all either =
      let before : (i : ℕ) → i < length (spelled_all had) → c (directory_line i) (directory_word i) ≡ slice_index_or (spelled_all had) i 0 =
      λ i below. left_fixed (OfEntry kept.used (spelled entry)) old c (directory_line i) (directory_word i) (slice_index_or (spelled_all had) i 0)
      all (old_left kept.used i (spelled entry) (omega (arith, below, stands.used))) (stands.words i below) in
      ⊎_elim
      (λ was. (
        0,
        omega arith,
        subst (λ (entries : List DirectoryEntry). Spells c entries) (sym (append-nil had))
            record { used = was ∙ stands.used; spelled = before },
      ))
      (λ whole.
      let more = spelled_more had entry in
      let count : length (spelled_all had ++ spelled entry) ≡ length (spelled_all had) + length (spelled entry) =
      length-append (spelled_all had) (spelled entry) in
      let behind : (i : ℕ) → i < length (spelled entry)
      → c (directory_line (length (spelled_all had) + i)) (directory_word (length (spelled_all had) + i)) ≡ slice_index_or (spelled entry) i 0 =
      subst (λ (n : ℕ). (i : ℕ) → i < length (spelled entry) → c (directory_line (n + i)) (directory_word (n + i)) ≡ slice_index_or (spelled entry) i 0)
      stands.used whole.1 in
      let AllSpelled = λ (words : List ℕ). (i : ℕ) → i < length words → c (directory_line i) (directory_word i) ≡ slice_index_or words i 0 in (
        1,
        omega arith,
        record {
          used = whole.0 ∙ ap (λ (n : ℕ). n + length (spelled entry)) stands.used ∙ sym count ∙ ap length (sym more);
          spelled = subst AllSpelled (sym more)
              (each_of_both (spelled_all had) (spelled entry) (λ i v. c (directory_line i) (directory_word i) ≡ v) before behind);
        },
      ))
      either

  pub entry_stops : StopsLeave old new (OldOrWhole kept.used (spelled entry)) → StopsLeave old new (HasSome had kept.left)
  entry_stops stops =
      let Gives = OfEntry kept.used (spelled entry) in
      let also = changes_stops Gives old new (OldOrGiven Gives old) changes (λ c all. all) in
      let both : StopsLeave old new (λ c. OldOrGiven Gives old c × OldOrWhole kept.used (spelled entry) c) = record {
        within = record {
          later = stops.within.later;
          before = stops.within.before;
          during = λ n gt le lt c was. (also.within.during n gt le lt c was, stops.within.during n gt le lt c was);
        };
        after = λ c all. (also.after c all, stops.after c all);
      } in
      stops_weaker old new (λ c. OldOrGiven Gives old c × OldOrWhole kept.used (spelled entry) c) (HasSome had kept.left) both
      (λ c at. subst (λ (all : List DirectoryEntry). HasSome had all c) (sym left) (both_spell c at.0 at.1))

-- ---- nothing is left

pub nothing_stands : (had : List DirectoryEntry) (kept : Kept) (m : Memory) → Stands had kept m → StandsOn had kept kept m
nothing_stands had kept m stands = record {
  added = [];
  left = refl;
  stands = subst (λ (all : List DirectoryEntry). Stands all kept m) (sym (append-nil had)) stands;
}

pub nothing_stops : (had : List DirectoryEntry) (kept : Kept) (m : Memory) → kept.left ≡ [] → Stands had kept m
    → StopsLeave m m (HasSome had kept.left)
nothing_stops had kept m none stands =
    let fixed : IsFixed m 0 3 kept.used = (subst (λ (all : List DirectoryEntry). NextStands all kept.progress kept.used m) none stands.next).1 in
    record {
      within = goes_nowhere m.image (HasSome had kept.left);
      after = λ c all. (
        0,
        omega arith,
        subst (λ (entries : List DirectoryEntry). Spells c entries) (sym (append-nil had)) record {
          used = fixed (c 0 3) (all 0 3) ∙ stands.used;
          spelled = λ i below. stands.words i below (c (directory_line i) (directory_word i)) (all (directory_line i) (directory_word i));
        },
      );
    }

-- ---- whichever entry comes next

abbrev first_of : (left : List DirectoryEntry) (words : List ℕ) → words ≡ next_words left → 0 < length words
    → (entry : DirectoryEntry) × (later : List DirectoryEntry) × (left ≡ entry ∷ later) × (words ≡ spelled entry)
first_of [] words is some = absurd (omega (arith, ap length is, some))
first_of (entry ∷ later) words is some = (entry, later, refl, is)

module _ (had : List DirectoryEntry) (kept : Kept) (words : List ℕ) (old new : Memory) (is : words ≡ next_words kept.left)
    (some : 0 < length words) (changes : ChangesTo (OfEntry kept.used words) old new) (stands : Stands had kept old) where
  abbrev entry : DirectoryEntry
  entry = (first_of kept.left words is some).0

  abbrev later : List DirectoryEntry
  later = (first_of kept.left words is some).1

  left_is : kept.left ≡ entry ∷ later
  left_is = (first_of kept.left words is some).2

  words_are : words ≡ spelled entry
  words_are = (first_of kept.left words is some).3

  changes_entry : ChangesTo (OfEntry kept.used (spelled entry)) old new
  changes_entry = subst (λ (some : List ℕ). ChangesTo (OfEntry kept.used some) old new) words_are changes

  pub has_come : HasCome kept.progress kept.used words old
  has_come = subst (λ (some : List ℕ). HasCome kept.progress kept.used some old) (sym words_are)
      (subst (λ (all : List DirectoryEntry). NextStands all kept.progress kept.used old) left_is stands.next)

  pub step_stands : (progress : Progress) → HasCome progress kept.used words new → StandsOn had kept (record kept { progress = progress }) new
  step_stands progress next = record {
    added = [];
    left = refl;
    stands = subst (λ (all : List DirectoryEntry). Stands all (record kept { progress = progress }) new) (sym (append-nil had))
        (comes_stands had kept entry later old new left_is changes_entry stands progress
        (subst (λ (some : List ℕ). HasCome progress kept.used some new) words_are next));
  }

  pub step_stops : StopsLeave old new (OldOrWhole kept.used words) → StopsLeave old new (HasSome had kept.left)
  step_stops stops = entry_stops had kept entry later old new left_is changes_entry stands
      (subst (λ (some : List ℕ). StopsLeave old new (OldOrWhole kept.used some)) words_are stops)

  pub step_in : (next : Kept) → next.left ≡ drop 1 kept.left → next.used ≡ kept.used + length words → next.progress ≡ Words 0
      → IsIn kept.used words new → StandsOn had kept next new
  step_in next after many begins here =
      let rest : next.left ≡ later = after ∙ ap (λ (all : List DirectoryEntry). drop 1 all) left_is in
      record {
        added = entry ∷ [];
        left = left_is ∙ ap (λ (all : List DirectoryEntry). entry ∷ all) (sym rest);
        stands = in_stands had kept entry later old new left_is changes_entry stands next rest
            (many ∙ ap (λ (some : List ℕ). kept.used + length some) words_are) begins
            (subst (λ (some : List ℕ). IsIn kept.used some new) words_are here);
      }

-- ---- the words that are left

-- an entry's words are the first, and behind them come those of the others
pub first_words : (rest : List ℕ) (left : List DirectoryEntry) → rest ≡ spelled_all left → 0 < length rest
    → slice_index_or rest 0 0 / 2 ^ 32 ≡ length (next_words left)
first_words rest [] is some = absurd (omega (arith, ap length is, some))
first_words rest (entry ∷ later) is some =
    ap (λ (all : List ℕ). slice_index_or all 0 0 / 2 ^ 32) is ∙ entry_length entry (spelled_all later)

pub next_within : (left : List DirectoryEntry) → length (next_words left) ≤ length (spelled_all left)
next_within [] = omega arith
next_within (entry ∷ later) = omega (arith, length-append (spelled entry) (spelled_all later))

pub next_taken : (left : List DirectoryEntry) → take (length (next_words left)) (spelled_all left) ≡ next_words left
next_taken [] = refl
next_taken (entry ∷ later) = take-append_seam (spelled entry) (spelled_all later)

pub next_dropped : (left : List DirectoryEntry) → drop (length (next_words left)) (spelled_all left) ≡ spelled_all (drop 1 left)
next_dropped [] = refl
next_dropped (entry ∷ later) = drop-append_seam (spelled entry) (spelled_all later)

pub next_sum : (left : List DirectoryEntry) → length (spelled_all left) ≡ length (next_words left) + length (spelled_all (drop 1 left))
next_sum [] = refl
next_sum (entry ∷ later) = length-append (spelled entry) (spelled_all later)

next_some : (left : List DirectoryEntry) → 0 < length (next_words left) → 0 < length left
next_some [] some = some
next_some (entry ∷ later) some = omega arith

-- after one entry, the others are spelled
pub spelled_on : (words : List ℕ) (at appended : ℕ) (entries : List DirectoryEntry) (used shapes : ℕ) (first : List ℕ)
    → AreSpelled words at appended (drop appended entries) used shapes → first ≡ next_words (drop appended entries) → 0 < length first
    → AreSpelled words (at + length first) (appended + 1) (drop (appended + 1) entries) (used + length first) shapes
spelled_on words at appended entries used shapes first are is some =
    let left = drop appended entries in
    let count : length first ≡ length (next_words left) = ap length is in
    let next : drop 1 left ≡ drop (appended + 1) entries = drop-drop 1 appended entries in
    let all : length (spelled_all left) ≡ length words - at = ap length (sym are.spelled) ∙ length-drop at words in
    let sum : length (spelled_all left) ≡ length (next_words left) + length (spelled_all (drop (appended + 1) entries)) =
    next_sum left ∙ ap (λ (rest : List DirectoryEntry). length (next_words left) + length (spelled_all rest)) next in
    record {
      within = omega (arith, count, next_within left, all, are.within);
      few = omega (arith, are.few, length-drop appended entries, length-drop (appended + 1) entries, next_some left (omega (arith, count, some)));
      spelled = sym (drop-drop (length first) at words)
          ∙ ap (λ (rest : List ℕ). drop (length first) rest) are.spelled
          ∙ ap (λ (n : ℕ). drop n (spelled_all left)) count
          ∙ next_dropped left
          ∙ ap spelled_all next;
      room = omega (arith, are.room, count, sum);
      counted = omega (arith, are.counted, count, sum);
    }

pub goes_in : (kept next : Kept) (words : List ℕ) → words ≡ next_words kept.left → 0 < length words → next.left ≡ drop 1 kept.left
    → next.used ≡ kept.used + length words → next.progress ≡ Words 0 → calls_left kept.progress kept.used words ≡ 1 → GoesIn kept next
goes_in kept next words is some after many begins calls =
    let first = first_of kept.left words is some in
    record {
      entry = first.0;
      left = first.2 ∙ ap (λ (rest : List DirectoryEntry). first.0 ∷ rest)
          (ap (λ (all : List DirectoryEntry). drop 1 all) (sym first.2) ∙ sym after);
      used = many ∙ ap (λ (some : List ℕ). kept.used + length some) first.3;
      progress = begins;
      calls = subst (λ (some : List ℕ). calls_left kept.progress kept.used some ≡ 1) is calls;
    }
