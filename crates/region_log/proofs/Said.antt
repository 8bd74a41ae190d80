-- What the entries that a stop leaves of a log say.
use Rattle.std.proofs.Common.{◌≡◌, ◌⊎◌, inl, inr, ◌<◌, ◌≤◌, ◌+◌, ◌*◌, ◌/◌, ◌%◌, ℕ, zero, suc, true, false, Bool, List, [], ◌∷◌}
use Rattle.std.proofs.Common.{◌++◌, length, map, slice_index_or, All, AllPairs, nat_eq, Option, Some, None, refl, sym, ◌∙◌, ap}
use Rattle.std.proofs.Common.{subst, arith}
use Rattle.std.specs.Prelude.{if◌then◌else◌}
use Rattle.std.proofs.lemmas.Bool.{cases_Bool, and_parts, eqb-true}
use Rattle.std.proofs.lemmas.Bool.Decides.{nat_tests}
use Rattle.std.proofs.lemmas.List.{length_push}
use Rattle.std.proofs.lemmas.List.FromFn.{length-map-range_with_len}
use Rattle.ap_base.specs.declared.place.Spot.{Spot}
use Rattle.image_layout.specs.Places.{logs, log_entries, log_head_line, log_entry_line, log_entry_word}
use Rattle.image_meaning.specs.Logging.{IsNamed}
use Rattle.image_meaning.specs.Logs.{Logged, log_count, logged_at, old_word, is_place}
use Rattle.line_image.specs.Trace.{Outcome}
use Rattle.region_log.specs.declared.entry.Entry.{Entry}
use Rattle.region_log.specs.declared.entry.EntryStage.TheVariants.{Begun, Written, Fenced, Counting, Counted}
use Rattle.region_log.specs.declared.entry.EndStage.TheVariants.{Writing, AllFenced, Clearing, Cleared}
use Rattle.region_log.specs.declared.entry.Underway.{Underway}
use Rattle.region_log.specs.declared.entry.Underway.TheVariants.{Nothing, Adding, Ending}
use Rattle.region_log.specs.Kept.{HoldsUnderway, FitsUnderway}
use Rattle.region_log.specs.Log.{SameWord, IsLogged, logged_of, LeftEntries, LeftUnderway}
use Rattle.region_log.specs.Said.{LeftEntriesSay, CountsFit, FencedEntriesAreThere, UncountedWordsSayNothing}
use Rattle.region_log.proofs.Left.{entry_left, whole_left, underway_left}

-- ---- places

is_here : (a b l w : ℕ) → b < 8 → a ≡ l → b ≡ w → is_place (8 * a + b) l w ≡ true
is_here a b l w below line word =
    let at : (8 * a + b) / 8 ≡ l = omega (arith, below, line) in
    let in_line : (8 * a + b) % 8 ≡ w = omega (arith, below, word) in
    let same_line : nat_eq ((8 * a + b) / 8) l ≡ true = grind (arith, nat_tests) in
    let same_word : nat_eq ((8 * a + b) % 8) w ≡ true = grind (arith, nat_tests) in
    rw (same_line, same_word) refl

here : (a b l w : ℕ) → b < 8 → is_place (8 * a + b) l w ≡ true → (a ≡ l) × (b ≡ w)
here a b l w below is =
    let both = and_parts (nat_eq ((8 * a + b) / 8) l) (nat_eq ((8 * a + b) % 8) w) is in
    let line : (8 * a + b) / 8 ≡ l = eqb-true ((8 * a + b) / 8) l both.0 in
    let word : (8 * a + b) % 8 ≡ w = eqb-true ((8 * a + b) % 8) w both.1 in
    (omega (arith, below, line), omega (arith, below, word))

-- ---- entries

counts_left : (t : ℕ) (entries : List Entry) (c : Outcome) → LeftEntries t entries c
    → log_count c t ≡ length entries
counts_left t entries c left =
    sym (length-map-range_with_len (logged_at c t) 0 (log_count c t))
    ∙ ap (λ (xs : List Logged). length xs) left ∙ length_mapped entries
  where
    length_mapped : (entries : List Entry) → length (map logged_of entries) ≡ length entries
    length_mapped [] = refl
    length_mapped (e ∷ entries) = ap suc (length_mapped entries)

-- behind the first entry
logged_behind : (e : Entry) (entries : List Entry) (spot : Spot) → (SameWord e.spot spot → ⊥)
    → IsLogged (e ∷ entries) spot → IsLogged entries spot
logged_behind e entries spot other (zero, x, below, at, same) = absurd
    (other (subst (λ (y : Entry). SameWord y.spot spot) (sym at) same))
logged_behind e entries spot other (suc k, x, below, at, same) = (k, x, omega (arith, below), at, same)

logged_more : (e : Entry) (entries : List Entry) (spot : Spot) → IsLogged entries spot
    → IsLogged (e ∷ entries) spot
logged_more e entries spot (k, x, below, at, same) = (suc k, x, omega (arith, below), at, same)

named_behind : (test : Bool) (old : ℕ) (rest : Option ℕ) → test ≡ false → IsNamed rest
    → IsNamed (if test then Some old else rest)
named_behind true old rest fails named = cc
named_behind false old rest fails named = named

names : (entries : List Entry) (spot : Spot) → IsLogged entries spot
    → IsNamed (old_word (map logged_of entries) spot.line spot.word)
names [] spot (k, x, below, at, same) = absurd (omega (arith, below))
names (e ∷ entries) spot logged = elim (cases_Bool
    (is_place (8 * e.spot.line + e.spot.word) spot.line spot.word)) [
      | inl its ↦ (e.old, rw its refl)
      | inr isnt ↦
          (let other : SameWord e.spot spot → ⊥ = λ same.
          let wrong : true ≡ false = sym (is_here e.spot.line e.spot.word spot.line spot.word e.spot.in_line
          same.0 same.1) ∙ isnt in cc in
          named_behind (is_place (8 * e.spot.line + e.spot.word) spot.line spot.word) e.old
          (old_word (map logged_of entries) spot.line spot.word) isnt
          (names entries spot (logged_behind e entries spot other logged)))
    ]

-- each entry's value, where no word is logged twice
values : (entries : List Entry) → AllPairs (λ (a b : Entry). ¬ SameWord a.spot b.spot) entries
    → All (λ (e : Entry). old_word (map logged_of entries) e.spot.line e.spot.word ≡ Some e.old) entries
values [] apart k d below = absurd (omega (arith, below))
values (e ∷ entries) apart zero d below =
    let its = is_here e.spot.line e.spot.word e.spot.line e.spot.word e.spot.in_line refl refl in
    rw its refl
values (e ∷ entries) apart (suc k) d below =
    let x : Entry = slice_index_or entries k d in
    let other : SameWord e.spot x.spot → ⊥ = apart 0 (suc k) d (omega arith) below in
    elim (cases_Bool (is_place (8 * e.spot.line + e.spot.word) x.spot.line x.spot.word)) [
      | inl its ↦ absurd
          (other (here e.spot.line e.spot.word x.spot.line x.spot.word e.spot.in_line its))
      | inr isnt ↦
          (let rest : AllPairs (λ (a b : Entry). ¬ SameWord a.spot b.spot) entries = λ i j b less within.
          apart (suc i) (suc j) b (omega (arith, less)) (omega (arith, within)) in
          rw isnt (values entries rest k d (omega (arith, below))))
    ]

names_none : (entries : List Entry) (spot : Spot) → (IsLogged entries spot → ⊥)
    → old_word (map logged_of entries) spot.line spot.word ≡ None
names_none [] spot none = refl
names_none (e ∷ entries) spot none = elim
    (cases_Bool (is_place (8 * e.spot.line + e.spot.word) spot.line spot.word)) [
      | inl its ↦ absurd (none (
        0,
        e,
        omega arith,
        refl,
        here e.spot.line e.spot.word spot.line spot.word
            e.spot.in_line its,
      ))
      | inr isnt ↦ rw isnt (names_none entries spot (λ logged. none (logged_more e entries spot logged)))
    ]

pub left_entries_say : LeftEntriesSay
left_entries_say = record {
  count = counts_left;
  named = λ t entries spot c left logged. subst
      (λ (xs : List Logged). IsNamed (old_word xs spot.line spot.word)) (sym left)
      (names entries spot logged);
  valued = λ t entries c left apart. subst
      (λ (xs : List Logged). All (λ (e : Entry). old_word xs e.spot.line e.spot.word ≡ Some e.old) entries)
      (sym left) (values entries apart);
  unnamed = λ t entries spot c left none. ap (λ (xs : List Logged). old_word xs spot.line spot.word) left
      ∙ names_none entries spot none;
}

-- ---- counts

module _ (t : ℕ) (entries : List Entry) (c : Outcome) where
  one_fits : LeftEntries t entries c → length entries ≤ log_entries → log_count c t ≤ log_entries
  one_fits left room = omega (arith, counts_left t entries c left, room)

  more_fits : (e : Entry) → LeftEntries t entries c ⊎ LeftEntries t (entries ++ e ∷ []) c
      → length entries < log_entries → log_count c t ≤ log_entries
  more_fits e (inl left) room = omega (arith, counts_left t entries c left, room)
  more_fits e (inr left) room = omega (
    arith,
    counts_left t (entries ++ e ∷ []) c left,
    length_push entries
        e,
    room,
  )

  none_fits : LeftEntries t entries c ⊎ LeftEntries t [] c → length entries ≤ log_entries
      → log_count c t ≤ log_entries
  none_fits (inl left) room = omega (arith, counts_left t entries c left, room)
  none_fits (inr left) room = omega (arith, counts_left t [] c left)

  left_fits : (bound depth : ℕ) (underway : Underway) → length entries ≤ log_entries
      → FitsUnderway bound depth entries underway
      → LeftUnderway t entries underway c → log_count c t ≤ log_entries
  left_fits bound depth Nothing room fits left = one_fits left room
  left_fits bound depth (Adding e Begun) room fits left = one_fits left room
  left_fits bound depth (Adding e Written) room fits left = one_fits left room
  left_fits bound depth (Adding e Fenced) room fits left = one_fits left room
  left_fits bound depth (Adding e Counting) room fits left = more_fits e left fits.1
  left_fits bound depth (Adding e Counted) room fits left = more_fits e left fits.1
  left_fits bound depth (Ending (Writing lines)) room fits left = one_fits left room
  left_fits bound depth (Ending AllFenced) room fits left = one_fits left room
  left_fits bound depth (Ending Clearing) room fits left = none_fits left room
  left_fits bound depth (Ending Cleared) room fits left = none_fits left room

pub counts_fit : CountsFit
counts_fit log m c keeps tells all =
    left_fits log.thread log.entries c m.size log.depth log.underway keeps.room keeps.fits
    (underway_left m c all log.thread log.entries log.underway (keeps.words tells))

pub fenced_entries_are_there : FencedEntriesAreThere
fenced_entries_are_there log e m c keeps is tells all =
    let words : HoldsUnderway m log.thread log.entries (Adding e Fenced) =
    subst (λ (underway : Underway). HoldsUnderway m log.thread log.entries underway) is (keeps.words tells)
    in (
      counts_left log.thread log.entries c (whole_left m c all log.thread log.entries words.0),
      entry_left m c all log.thread (length log.entries) (logged_of e) words.1,
    )

-- ---- words that say nothing

pub uncounted_words_say_nothing : UncountedWordsSayNothing
uncounted_words_say_nothing t n half c d room two beyond fits same = record {
  counts = λ s below. same (log_head_line s) 0 (λ line. absurd (omega (arith, room, line)));
  entries = λ s k below counted.
      let place : d (log_entry_line s k) (log_entry_word k) ≡ c (log_entry_line s k) (log_entry_word k) =
      same (log_entry_line s k) (log_entry_word k)
      (λ line word. apart s k (log_entry_word k) below counted line word (omega arith) (omega arith)) in
      let old : d (log_entry_line s k) (log_entry_word k + 1) ≡ c (log_entry_line s k) (log_entry_word k + 1)
      =
      same (log_entry_line s k) (log_entry_word k + 1)
      (λ line word. apart s k (log_entry_word k + 1) below counted line word (omega arith) (omega arith))
      in
      rw (place, old) refl;
}
  where
    apart : (s k word : ℕ) → s < logs → k < log_count c s → log_entry_line s k ≡ log_entry_line t n
        → word ≡ log_entry_word n + half
        → log_entry_word k ≤ word → word < log_entry_word k + 2 → ⊥
    apart s k word below counted line is from to =
        let few : k < log_entries = omega (arith, counted, fits s below) in
        let own : s ≡ t = omega (arith, line, few, room) in
        let before : k < n = let here : k < log_count c t = rw own at counted in
        omega (arith, here, beyond) in
        omega (arith, line, own, before, is, from, to, two)
