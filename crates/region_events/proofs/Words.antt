-- The words of an entry, and the counts, as events.
use Rattle.std.proofs.Common.{◌≡◌, ◌≢◌, inl, inr, ℕ, ◌+◌, ◌*◌, ◌<◌, ◌≤◌, true, false, List, [], ◌∷◌, length, Some, None, refl}
use Rattle.std.proofs.Common.{sym, ◌∙◌, ap, subst, arith, slice_index_or, ◌⊎◌, add-one, lt-ltb, eq-eqb, ne_eqb}
use Rattle.ap_base.specs.declared.place.Place.{Place}
use Rattle.ap_base.specs.declared.place.Spot.{Spot}
use Rattle.line_image.specs.Trace.{Outcome}
use Rattle.line_memory.specs.Memory.{Memory, shown, CanLeaveAll, IsDurable}
use Rattle.image_layout.specs.Places.{logs, log_entries, min_lines, log_head_line, log_entry_line, log_entry_word}
use Rattle.image_meaning.specs.Logs.{Logged, log_count, logged_at, log_of, old_word}
use Rattle.run_history.specs.Knowing.{Knowledge, guard_of}
use Rattle.stop_theorem.specs.RegionLaws.{number_of}
use Rattle.stop_theorem.specs.Stops.{regions_of}
use Rattle.stop_theorem.specs.InvariantEvents.{line_at, word_at, Puts as StopPuts}
use Rattle.stop_theorem.specs.Running.{State, known_at, with_memory, Event, Events, none, more, LogWordStored, CountRaised}
use Rattle.stop_theorem.specs.Running.{CountLowered}
use Rattle.region_log.specs.declared.entry.Entry.{Entry}
use Rattle.region_log.specs.declared.entry.EntryStage.TheVariants.{Fenced}
use Rattle.region_log.specs.declared.entry.EndStage.{EndStage}
use Rattle.region_log.specs.declared.entry.Underway.TheVariants.{Adding, Ending}
use Rattle.region_log.specs.Guarding.{is_closing}
use Rattle.region_log.specs.Kept.{Counts, KeepsLog}
use Rattle.region_log.specs.Log.{IsLogged, LeftEntries}
use Rattle.region_log.specs.Made.{entry_words, Puts, PutsAll}
use Rattle.region_log.proofs.Frames.{put-only}
use Rattle.region_log.proofs.Left.{underway_left}
use Rattle.region_log.proofs.Said.{left_entries_say, fenced_entries_are_there, uncounted_words_say_nothing}
use Rattle.region_events.specs.Guards.{IsWordOf, KeepsGuards}
use Rattle.region_events.proofs.Calls.{as_puts}
use Rattle.region_events.proofs.Kept.{log_with}
use Rattle.region_events.proofs.Places.{head_inside, entry_inside, entry_in_log, place_inside, each_count_fits}
use Rattle.region_events.proofs.Standing.{IsStanding, events_stand}

-- ---- the words of an entry

module _ (first : Knowledge) (s : State) (is : IsStanding first s) (t n : ℕ) (log : t < logs)
    (room : n < log_entries) (lines : min_lines ≤ s.memory.size) (count : Counts s.memory t n) where
  word_stored : (half word value : ℕ) (new : Memory) → half < 2 → word ≡ log_entry_word n + half
      → Puts (record { line = log_entry_line t n; word = word; value = value }) s.memory new
      → Event first s (with_memory s new)
  word_stored half word value new two at put =
      LogWordStored s new (log_entry_line t n) word value (record {
        puts = as_puts (record { line = log_entry_line t n; word = word; value = value }) s.memory new put;
        inside = entry_inside t n s.memory.size log room lines;
        log = entry_in_log t n log room;
        uncounted = λ c d left left_new same.
            let own : log_count c t ≡ n = count (c (log_head_line t) 0) (left (log_head_line t) 0) in
            uncounted_words_say_nothing t n half c d room two (omega (arith, own))
            (λ u below. each_count_fits first.world.heap (known_at first s) s.layout s.waits s.memory
            is.stands
            c left u below)
            (λ l w apart. same l w (λ line here. apart line (here ∙ at)));
      })

  -- the other words of the entry leave the count
  count_stays : (word value : ℕ) (new : Memory)
      → Puts (record { line = log_entry_line t n; word = word; value = value }) s.memory new → Counts new t n
  count_stays word value new put =
      put-only (record { line = log_entry_line t n; word = word; value = value }) s.memory new put
      (log_head_line t) 0 n (λ same. absurd (omega (arith, same))) count

pub entry_stored : (first : Knowledge) (s : State) → IsStanding first s → (t n : ℕ) (e : Logged) → t < logs
    → n < log_entries → min_lines ≤ s.memory.size → Counts s.memory t n
    → (placed : Memory) → PutsAll (entry_words t n e) s.memory placed
    → Events first s (with_memory s placed)
entry_stored first s is t n e log room lines count placed puts =
    let one = with_memory s puts.0 in
    let before : Events first s one = more s s one (none s)
    (word_stored first s is t n log room lines count 0 (log_entry_word n) e.place puts.0 (omega arith)
    (omega arith) puts.1) in
    let size = puts.1.size in
    let there : min_lines ≤ puts.0.size = omega (arith, size, lines) in
    let then_count : Counts puts.0 t n = count_stays first s is t n log room lines count (log_entry_word n)
    e.place puts.0 puts.1 in
    subst (λ m. Events first s (with_memory s m)) (sym puts.2.2)
    (more s one (with_memory s puts.2.0) before
    (word_stored first one (events_stand first s one before is) t n log room there then_count 1
    (log_entry_word n + 1) e.old puts.2.0 (omega arith) refl puts.2.1))

-- ---- the count is raised

module _ (first : Knowledge) (s : State) (is : IsStanding first s) (t depth : ℕ) (entries : List Entry)
    (e : Entry) (keeps : KeepsLog (log_with t depth entries (Adding e Fenced)) s.memory)
    (old : e.old ≡ shown s.memory e.spot.line e.spot.word) where
  left_of : (c : Outcome) → CanLeaveAll s.memory c → LeftEntries t entries c
  left_of c left = underway_left s.memory c left t entries (Adding e Fenced) (keeps.words is.telling)

  module _ (p : Place) (word : IsWordOf (known_at first s) s.layout e.spot p) where
    whole : (c : Outcome) → CanLeaveAll s.memory c → logged_at c t (length entries) ≡ record {
      place = number_of (line_at s.layout (known_at first s) p) (word_at (known_at first s) p);
      old = shown s.memory (line_at s.layout (known_at first s) p) (word_at (known_at first s) p);
    }
    whole c left =
        let there = fenced_entries_are_there (log_with t depth entries (Adding e Fenced)) e s.memory c keeps
        refl is.telling left in
        there.1 ∙ ap (λ (o : ℕ). record { place = 8 * e.spot.line + e.spot.word; old = o }) old
        ∙ ap (λ (l : ℕ). record { place = 8 * l + e.spot.word; old = shown s.memory l e.spot.word }) word.line
        ∙ ap (λ (w : ℕ). record {
          place = 8 * line_at s.layout (known_at first s) p + w;
          old = shown s.memory (line_at s.layout (known_at first s) p) w;
        }) word.word

    unnamed : (c : Outcome) → CanLeaveAll s.memory c
        → old_word (log_of c t) (line_at s.layout (known_at first s) p) (word_at (known_at first s) p) ≡ None
    unnamed c left =
        ap (λ l. old_word (log_of c t) l (word_at (known_at first s) p)) (sym word.line)
        ∙ ap (λ w. old_word (log_of c t) e.spot.line w) (sym word.word)
        ∙ left_entries_say.unnamed t entries e.spot c (left_of c left) keeps.fits.0.unlogged

  pub count_raised : KeepsGuards (known_at first s) s.layout (log_with t depth entries (Adding e Fenced))
      → (placed : Memory)
      → Puts (record { line = log_head_line t; word = 0; value = length entries + 1 }) s.memory placed
      → Event first s (with_memory s placed)
  count_raised g placed put =
      let n = length entries in
      let lines = keeps.size in
      let at = g.places e.spot (inr (refl, refl)) in
      CountRaised s placed t n at.0 (record {
        log = keeps.thread;
        room = keeps.fits.1;
        puts = subst (λ v. StopPuts (log_head_line t) 0 v s.memory placed) (add-one n) (as_puts (record {
          line = log_head_line t;
          word = 0;
          value = n + 1;
        }) s.memory placed put);
        inside = head_inside t s.memory.size keeps.thread lines;
        is_kept = at.2.is_kept;
        guard = at.2.guard;
        not_closing = sym g.closing;
        in_image = place_inside first.world.heap (known_at first s) s.layout s.waits s.memory is.stands
            is.enough at.0 at.2.is_kept;
        counts = λ c left. left_entries_say.count t entries c (left_of c left);
        unnamed = unnamed at.0 at.1;
        whole = whole at.0 at.1;
      })

-- ---- the count is lowered

module _ (t : ℕ) (below : t < logs) (m : Memory) where
  pub counts_some : (n : ℕ) → Counts m t n → n ≢ 0 → (c : Outcome) → CanLeaveAll m c → regions_of c t ≡ false
  counts_some n count some c left =
      rw (
        lt-ltb t logs below,
        ne_eqb (c (log_head_line t) 0) 0
            (λ zero. some (sym (count (c (log_head_line t) 0) (left (log_head_line t) 0)) ∙ zero)),
      ) refl

  pub counts_none : Counts m t 0 → (c : Outcome) → CanLeaveAll m c → regions_of c t ≡ true
  counts_none count c left =
      rw (
        lt-ltb t logs below,
        eq-eqb (c (log_head_line t) 0) 0 (count (c (log_head_line t) 0) (left (log_head_line t) 0)),
      ) refl

pub some_length : (entries : List Entry) → entries ≢ [] → length entries ≢ 0
some_length [] some = absurd (some refl)
some_length (e ∷ entries) some = λ none. absurd (omega (arith, none))

module _ (first : Knowledge) (s : State) (t depth : ℕ) (entries : List Entry) (stage : EndStage)
    (below : t < logs) (lines : min_lines ≤ s.memory.size) where
  -- each place that the region has guarded is durable
  durable_places : KeepsGuards (known_at first s) s.layout (log_with t depth entries (Ending stage))
      → ((k : ℕ) (d : Entry) → k < length entries → IsDurable s.memory (slice_index_or entries k d).spot.line
      (slice_index_or entries k d).spot.word)
      → (p : Place) → guard_of (known_at first s).guards p ≡ Some t
      → IsDurable s.memory (line_at s.layout (known_at first s) p) (word_at (known_at first s) p)
  durable_places g durable p guard =
      let at = g.guarded p guard in
      logged_durable at.1 p at.2 at.3
    where
      logged_durable : (spot : Spot) (p : Place) → IsWordOf (known_at first s) s.layout spot p
          → IsLogged entries spot ⊎ ⊥
          → IsDurable s.memory (line_at s.layout (known_at first s) p) (word_at (known_at first s) p)
      logged_durable spot p word (inr never) = absurd never
      logged_durable spot p word (inl (k, x, within, at, same)) =
          let there : IsDurable s.memory x.spot.line x.spot.word =
          subst (λ (e : Entry). IsDurable s.memory e.spot.line e.spot.word) at (durable k x within) in
          let here : IsDurable s.memory spot.line x.spot.word =
          subst (λ l. IsDurable s.memory l x.spot.word) same.0 there in
          let its : IsDurable s.memory spot.line spot.word =
          subst (λ w. IsDurable s.memory spot.line w) same.1 here in
          let line : IsDurable s.memory (line_at s.layout (known_at first s) p) spot.word =
          subst (λ l. IsDurable s.memory l spot.word) word.line its in
          subst (λ w. IsDurable s.memory (line_at s.layout (known_at first s) p) w) word.word line

  pub count_lowered : is_closing (Ending stage) ≡ true → entries ≢ [] → Counts s.memory t (length entries)
      → KeepsGuards (known_at first s) s.layout (log_with t depth entries (Ending stage))
      → ((k : ℕ) (d : Entry) → k < length entries → IsDurable s.memory (slice_index_or entries k d).spot.line
      (slice_index_or entries k d).spot.word)
      → (placed : Memory) → Puts (record { line = log_head_line t; word = 0; value = 0 }) s.memory placed
      → Event first s (with_memory s placed)
  count_lowered closing some count g durable placed put = CountLowered s placed t (record {
    log = below;
    puts = as_puts (record { line = log_head_line t; word = 0; value = 0 }) s.memory placed put;
    inside = head_inside t s.memory.size below lines;
    closing = sym g.closing ∙ closing;
    durable = λ p kept guard. durable_places g durable p guard;
    counts = counts_some t below s.memory (length entries) count (some_length entries some);
  })
