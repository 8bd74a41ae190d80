-- Entries that are put back one after another.
use Rattle.std.proofs.Common.{◌≡◌, ◌⊎◌, inl, inr, ⊎_elim, ◌<◌, ◌≤◌, ◌/◌, ◌%◌, ◌&&◌, ◌||◌, ◌==◌, ℕ, zero, suc, Bool, true, false}
use Rattle.std.proofs.Common.{List, [], ◌∷◌, ◌++◌, length, drop, nat_le, nat_lt, None, Some, get_or, Result, Ok, Err, OnOk, ◌+◌}
use Rattle.std.proofs.Common.{add-one, refl, sym, ◌∙◌, ap, subst, arith}
use Rattle.std.proofs.lemmas.Bool.{cases_eq, and_parts, eq-eqb, eqb-true, leb-true, ltb-true, le-leb, lt-ltb, true≢false}
use Rattle.std.proofs.lemmas.List.FromFn.{length-map-range_with_len, get_or-map-range_with_len}
use Rattle.std.proofs.Math.ListN.{drop_of_length-le}
use Rattle.std.proofs.Math.Seq.{drop-cons}
use Rattle.line_memory.specs.Memory.{Memory, shown, IsKnown, IsWritten, IsDurable}
use Rattle.image_layout.specs.Places.{min_lines, logs, log_entries, root_slots, slot_line, first_object_line, log_head_line}
use Rattle.image_layout.specs.Places.{log_entry_line, log_entry_word}
use Rattle.image_meaning.specs.Checks.{Words}
use Rattle.image_meaning.specs.Logs.{Logged, log_count, logged_at, log_of, logs_below, may_be_logged, logs_fault, is_place}
use Rattle.image_meaning.specs.Logs.{old_word, is_log_line, put_back, put_each}
use Rattle.image_meaning.proofs.Logs.{not_log_before, not_log_after}
use Rattle.image_meaning.proofs.Naming.{some_log}
use Rattle.image_meaning.proofs.Places.{log_passes, entry_passes}
use Rattle.image_meaning.proofs.PuttingBack.{counted-put_back}
use Rattle.image_meaning.proofs.Stopped.{logs_pass}
use Rattle.word_changes.specs.Changes.{Tells, AllKnown, Nothing, IsGiven, ChangesTo}
use Rattle.word_changes.proofs.Changing.{changes_nothing, changes_nowhere, changes_more, changes_weaker}
use Rattle.image_recovery.specs.Putting.{LogsSay, IsPutBack, IsClearedAt, IsCleared, AllWritten, AllDurable, IsPutting}

-- ---- entries that pass

true_or : (b : Bool) → (b ≡ true) ⊎ (b ≡ false)
true_or true = inl refl
true_or false = inr refl

or_parts : (a b : Bool) → (a || b) ≡ true → (a ≡ true) ⊎ (b ≡ true)
or_parts true b is = inl refl
or_parts false b is = inr is

logged_line : (size line : ℕ) → min_lines ≤ size → may_be_logged size line ≡ true → (line < size) × (is_log_line line ≡ false)
logged_line size line enough may = elim (or_parts (nat_le (slot_line 0) line && nat_lt line (slot_line root_slots))
    (nat_le first_object_line line && nat_lt line size) may) [
      | inl slot ↦ (
          let below : line < 33 = ltb-true line (slot_line root_slots) (and_parts (nat_le (slot_line 0) line) (nat_lt line (slot_line root_slots)) slot).1 in
          (omega (arith, enough, below), not_log_before line (omega (arith, below))))
      | inr object ↦ (
          let parts = and_parts (nat_le first_object_line line) (nat_lt line size) object in
          (ltb-true line size parts.1, not_log_after line (leb-true first_object_line line parts.0)))
    ]

-- an entry that counts lies in its log
pub counted_few : (size : ℕ) (c : Words) (t : ℕ) → logs_fault size c ≡ None → t < logs → log_count c t ≤ log_entries
counted_few size c t pass there = (log_passes size c t (logs_pass size c pass t there)).0

-- a place that an entry has is named
named_at : (entries : List Logged) (none : Logged) (k line word : ℕ) → k < length entries
    → is_place (get_or entries k none).place line word ≡ true → (o : ℕ) × (old_word entries line word ≡ Some o)
named_at [] none k line word below is = absurd (omega (arith, below))
named_at (e ∷ entries) none zero line word below is = (e.old, rw is refl)
named_at (e ∷ entries) none (suc k) line word below is = elim (true_or (is_place e.place line word)) [
  | inl here ↦ (e.old, rw here refl)
  | inr other ↦ (
      let rest = named_at entries none k line word (omega (arith, below)) is in
      (rest.0, rw other rest.1))
]

-- what the logs say of a word is what it has once they are put back
pub said : (c : Words) (l w v : ℕ) → is_log_line l ≡ false → LogsSay c l w v → v ≡ put_back c l w
unfolding put_back
said c l w v outside says = rw (outside, says) refl

-- the logs say of the place of an entry that counts what the entry does
entry_said : (size : ℕ) (c : Words) (t n : ℕ) → logs_fault size c ≡ None → t < logs → n < log_count c t
    → is_log_line ((logged_at c t n).place / 8) ≡ false
    → LogsSay c ((logged_at c t n).place / 8) ((logged_at c t n).place % 8) (logged_at c t n).old
entry_said size c t n pass there below outside =
    let entry = logged_at c t n in
    let none : Logged = record { place = 0; old = 0 } in
    let count : length (log_of c t) ≡ log_count c t = length-map-range_with_len (logged_at c t) 0 (log_count c t) in
    let at : get_or (log_of c t) n none ≡ entry =
    get_or-map-range_with_len (logged_at c t) 0 (log_count c t) n n none below (omega arith) in
    let here = named_at (log_of c t) none n (entry.place / 8) (entry.place % 8) (omega (arith, below, count))
    (subst (λ (e : Logged). is_place e.place (entry.place / 8) (entry.place % 8) ≡ true) (sym at) (own_place entry.place)) in
    let named = some_log c (entry.place / 8) (entry.place % 8) (t, there, here) in
    let old : named.0 ≡ entry.old =
    said c (entry.place / 8) (entry.place % 8) named.0 outside named.1 ∙ counted-put_back.each size c t n pass there below in
    named.1 ∙ ap (λ (k : ℕ). Some k) old
  where
    own_place : (p : ℕ) → is_place p (p / 8) (p % 8) ≡ true
    own_place p = rw (eq-eqb (p / 8) (p / 8) refl, eq-eqb (p % 8) (p % 8) refl) refl

-- the place of an entry that counts
pub entry_facts : (size : ℕ) (c : Words) (t n : ℕ) → min_lines ≤ size → logs_fault size c ≡ None → t < logs → n < log_count c t
    → ((logged_at c t n).place / 8 < size) × (is_log_line ((logged_at c t n).place / 8) ≡ false)
    × LogsSay c ((logged_at c t n).place / 8) ((logged_at c t n).place % 8) (logged_at c t n).old
entry_facts size c t n enough pass there below =
    let entry = entry_passes size c t n ((log_passes size c t (logs_pass size c pass t there)).1 n below) in
    let line = logged_line size ((logged_at c t n).place / 8) enough entry.0 in
    (line.0, line.1, entry_said size c t n pass there below line.1)

-- the entries of a log from one on
pub log_step : (c : Words) (t n : ℕ) → n < log_count c t → drop n (log_of c t) ≡ logged_at c t n ∷ drop (suc n) (log_of c t)
log_step c t n below =
    let count : length (log_of c t) ≡ log_count c t = length-map-range_with_len (logged_at c t) 0 (log_count c t) in
    let none : Logged = record { place = 0; old = 0 } in
    drop-cons (log_of c t) n none (omega (arith, below, count))
    ∙ ap (λ (e : Logged). e ∷ drop (suc n) (log_of c t))
    (get_or-map-range_with_len (logged_at c t) 0 (log_count c t) n n none below (omega arith))

pub log_end : (c : Words) (t n : ℕ) → log_count c t ≤ n → drop n (log_of c t) ≡ []
log_end c t n all =
    let count : length (log_of c t) ≡ log_count c t = length-map-range_with_len (logged_at c t) 0 (log_count c t) in
    drop_of_length-le (log_of c t) (omega (arith, all, count))

-- ---- one entry

put_shows : (c : Words) (done : List Logged) (a b : Words) (place old : ℕ)
    → ((l w : ℕ) → (l ≡ place / 8 → w ≡ place % 8 → ⊥) → b l w ≡ a l w) → b (place / 8) (place % 8) ≡ old
    → (l w : ℕ) → a l w ≡ put_each done c l w → b l w ≡ put_each (record { place = place; old = old } ∷ done) c l w
put_shows c done a b place old others here l w before = elim (true_or (is_place place l w)) [
  | inl e ↦ (
      let parts = and_parts (place / 8 == l) (place % 8 == w) e in
      let line : place / 8 ≡ l = eqb-true (place / 8) l parts.0 in
      let word : place % 8 ≡ w = eqb-true (place % 8) w parts.1 in
      rw e (ap (λ (k : ℕ). b k w) (sym line) ∙ ap (λ (k : ℕ). b (place / 8) k) (sym word) ∙ here))
  | inr e ↦ rw e (others l w (λ line word.
      true≢false (sym (own_place l w line word) ∙ e)) ∙ before)
]
  where
    own_place : (l w : ℕ) → l ≡ place / 8 → w ≡ place % 8 → is_place place l w ≡ true
    own_place l w line word = rw (eq-eqb (place / 8) l (sym line), eq-eqb (place % 8) w (sym word)) refl

-- a call that stores nothing
pub nothing_put : (c : Words) (done : List Logged) (first a b : Memory) → ChangesTo Nothing a b → IsPutting c done first a
    → IsPutting c done first b
nothing_put c done first a b changes so_far = record {
  known = changes.known so_far.known;
  shows = λ l w below. let under : l < a.size = omega (arith, below, changes.size) in
      changes.shows so_far.known l w under (λ v none. none) ∙ so_far.shows l w under;
  logs = λ l w below is. let under : l < a.size = omega (arith, below, changes.size) in
      changes.shows so_far.known l w under (λ v none. none) ∙ so_far.logs l w under is;
  written = λ tells all l w below. let under : l < a.size = omega (arith, below, changes.size) in
      changes.written (so_far.changes.telling tells) l w under (λ v none. none) (so_far.written tells all l w under);
  changes = changes_more (IsPutBack c) first a b so_far.changes (changes_nowhere (IsPutBack c) a b changes);
}

module _ (c : Words) (done : List Logged) (first a b d : Memory) (place old : ℕ) (below : place / 8 < a.size)
    (outside : is_log_line (place / 8) ≡ false) (says : LogsSay c (place / 8) (place % 8) old)
    (so_far : IsPutting c done first a) (puts : ChangesTo (IsGiven (place / 8) (place % 8) old) a b) (last : ChangesTo Nothing b d) where
  back : ChangesTo (IsPutBack c) a b
  back = changes_weaker (IsGiven (place / 8) (place % 8) old) (IsPutBack c) a b
      (λ l w v given. (
        ap is_log_line given.0 ∙ outside,
        ap (λ (k : ℕ). old_word (logs_below c logs) k w) given.0
            ∙ ap (λ (k : ℕ). old_word (logs_below c logs) (place / 8) k) given.1 ∙ says ∙ ap (λ (k : ℕ). Some k) (sym given.2),
      )) puts

  pub put_changes : ChangesTo (IsPutBack c) first d
  put_changes = changes_more (IsPutBack c) first b d (changes_more (IsPutBack c) first a b so_far.changes back)
      (changes_nowhere (IsPutBack c) b d last)

  pub put_one_more : shown b (place / 8) (place % 8) ≡ old
      → ((l w : ℕ) → (l ≡ place / 8 → w ≡ place % 8 → ⊥) → shown b l w ≡ shown a l w)
      → ((w : ℕ) → IsWritten d (place / 8) w) → IsPutting c (record { place = place; old = old } ∷ done) first d
  put_one_more here others written =
      let known : (l : ℕ) → l < b.size → IsKnown b l = puts.known so_far.known in
      record {
        known = last.known known;
        shows = λ l w under.
            let under_b : l < b.size = omega (arith, under, last.size) in
            let under_a : l < a.size = omega (arith, under_b, puts.size) in
            last.shows known l w under_b (λ v none. none)
            ∙ put_shows c done (shown a) (shown b) place old others here l w (so_far.shows l w under_a);
        logs = λ l w under is.
            let under_b : l < b.size = omega (arith, under, last.size) in
            let under_a : l < a.size = omega (arith, under_b, puts.size) in
            last.shows known l w under_b (λ v none. none)
            ∙ others l w (λ line word. true≢false (sym is ∙ ap is_log_line line ∙ outside))
            ∙ so_far.logs l w under_a is;
        written = λ tells all l w under.
            let under_b : l < b.size = omega (arith, under, last.size) in
            let under_a : l < a.size = omega (arith, under_b, puts.size) in
            let tells_a : Tells a = so_far.changes.telling tells in
            ⊎_elim
            (λ (at : l ≡ place / 8). subst (λ (k : ℕ). IsWritten d k w) (sym at) (written w))
            (λ (other : l ≡ place / 8 → ⊥). last.written (puts.telling tells_a) l w under_b (λ v none. none)
            (puts.written tells_a l w under_a (λ v given. other given.0) (so_far.written tells all l w under_a)))
            (cases_eq l (place / 8));
        changes = put_changes;
      }

-- at first
pub none_put : (m : Memory) → ((l : ℕ) → l < m.size → IsKnown m l) → IsPutting (shown m) [] m m
none_put m known = record {
  known = known;
  shows = λ l w below. refl;
  logs = λ l w below is. refl;
  written = λ tells all. all;
  changes = changes_nothing (IsPutBack (shown m)) m;
}

-- ---- a log that is emptied

pub nothing_written : (a b : Memory) → ChangesTo Nothing a b → Tells a → AllWritten a → AllWritten b
nothing_written a b changes tells all l w below =
    let under : l < a.size = omega (arith, below, changes.size) in
    changes.written tells l w under (λ v none. none) (all l w under)

module _ (t : ℕ) (a b d f : Memory) (fetched : ChangesTo Nothing a b) (puts : ChangesTo (IsClearedAt t) b d) (last : ChangesTo Nothing d f) where
  pub cleared_all : ChangesTo (IsClearedAt t) a f
  cleared_all = changes_more (IsClearedAt t) a d f
      (changes_more (IsClearedAt t) a b d (changes_nowhere (IsClearedAt t) a b fetched) puts) (changes_nowhere (IsClearedAt t) d f last)

  pub cleared_written : ((w : ℕ) → IsWritten f (log_head_line t) w) → Tells a → AllWritten a → AllWritten f
  cleared_written written tells all l w below =
      let under_d : l < d.size = omega (arith, below, last.size) in
      let under_b : l < b.size = omega (arith, under_d, puts.size) in
      let tells_b : Tells b = fetched.telling tells in
      ⊎_elim
      (λ (at : l ≡ log_head_line t). subst (λ (k : ℕ). IsWritten f k w) (sym at) (written w))
      (λ (other : l ≡ log_head_line t → ⊥). last.written (puts.telling tells_b) l w under_d (λ v none. none)
      (puts.written tells_b l w under_b (λ v given. other given.0) (nothing_written a b fetched tells all l w under_b)))
      (cases_eq l (log_head_line t))

pub cleared_of : (t : ℕ) (a b : Memory) → t < logs → ChangesTo (IsClearedAt t) a b → ChangesTo IsCleared a b
cleared_of t a b there changes = changes_weaker (IsClearedAt t) IsCleared a b (λ l w v given. (t, there, given)) changes

pub all_durable : (a b : Memory) → ChangesTo Nothing a b → ((l w : ℕ) → IsWritten a l w → IsDurable b l w) → AllWritten a → AllDurable b
all_durable a b changes durable all l w below = durable l w (all l w (omega (arith, below, changes.size)))

-- an emptied log stays so
pub stays_empty : (s t : ℕ) (a b : Memory) → AllKnown a → log_head_line s < a.size → ChangesTo (IsClearedAt t) a b → s < t
    → shown a (log_head_line s) 0 ≡ 0 → shown b (log_head_line s) 0 ≡ 0
stays_empty s t a b known below changes before empty =
    changes.shows known (log_head_line s) 0 below (λ v given. absurd (omega (arith, before, given.0))) ∙ empty

-- ---- what is read of the logs

pub head_in : (t : ℕ) → t < logs → is_log_line (log_head_line t) ≡ true
head_in t there =
    rw (le-leb (log_head_line 0) (log_head_line t) (omega arith), lt-ltb (log_head_line t) first_object_line (omega (arith, there))) refl

pub entry_in : (t n : ℕ) → t < logs → n < log_entries → is_log_line (log_entry_line t n) ≡ true
entry_in t n there few =
    rw (le-leb (log_head_line 0) (log_entry_line t n) (omega arith), lt-ltb (log_entry_line t n) first_object_line (omega (arith, there, few))) refl

pub loaded : (c : Words) (done : List Logged) (first a : Memory) (t n : ℕ) → min_lines ≤ a.size → t < logs → n < log_entries
    → IsPutting c done first a
    → (shown a (log_entry_line t n) (log_entry_word n) ≡ (logged_at c t n).place)
    × (shown a (log_entry_line t n) (log_entry_word n + 1) ≡ (logged_at c t n).old)
loaded c done first a t n enough there few so_far =
    let below : log_entry_line t n < a.size = omega (arith, enough, there, few) in
    let inside = entry_in t n there few in
    (so_far.logs (log_entry_line t n) (log_entry_word n) below inside, so_far.logs (log_entry_line t n) (log_entry_word n + 1) below inside)

pub same_logged : (p q a b : ℕ) → p ≡ q → a ≡ b → let e : Logged = record { place = p; old = a } in e ≡ record { place = q; old = b }
same_logged p q a b place old = rw (place, old) refl

pub logs_more : (c : Words) (t : ℕ) → logs_below c (t + 1) ≡ log_of c t ++ logs_below c t
unfolding logs_below
logs_more c t = rw add-one refl

pub logs_none : (c : Words) → logs_below c 0 ≡ []
unfolding logs_below
logs_none c = refl

-- what holds at each exit of a call
pub at_success : {T E : Type 0} (r : Result T E) (P : Type 0) → P → OnOk r P
at_success (Ok x) P p = p
at_success (Err e) P p = tt
