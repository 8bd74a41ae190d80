-- Stores, write-backs and fences that succeed are events.
use Rattle.std.proofs.Common.{◌≡◌, ◌≢◌, inl, inr, ℕ, Bool, suc, ◌+◌, ◌^◌, ◌<◌, ◌≤◌, true, false, nat_eq, List, [], ◌∷◌, ◌++◌}
use Rattle.std.proofs.Common.{Some, refl, sym, ◌∙◌, ap, subst, arith, if◌then◌else◌, eq-eqb, ne_eqb, lt-ltb, le-leb}
use Rattle.std.proofs.lemmas.Bool.{or_parts}
use Rattle.ap_base.specs.declared.place.Place.{Place}
use Rattle.graph_model.specs.declared.types.Value.{Value}
use Rattle.line_image.specs.Trace.{Outcome}
use Rattle.line_memory.specs.Memory.{Memory, shown, CanLeaveAll, IsWritten, IsDurable, OneCall}
use Rattle.line_memory.specs.Moments.{KeepsShown}
use Rattle.line_memory.proofs.Residence.{every_line_is_resident}
use Rattle.image_layout.specs.Places.{logs, min_lines, first_object_line, log_head_line, log_entry_line, log_entry_word}
use Rattle.image_meaning.specs.Checks.{Words}
use Rattle.image_meaning.specs.Logs.{Logged, SameLogs, is_log_line, log_count, logged_at, first_logged, log_of, old_word}
use Rattle.image_meaning.proofs.Ranges.{mapped_same}
use Rattle.run_history.specs.declared.act.Op.TheVariants as op
use Rattle.run_history.specs.Knowing.{Knowledge, Fate, Unfenced, is_single, unfenced_at, owes_fence, known_after_op}
use Rattle.run_history.specs.Laws.{IsSingleStore}
use Rattle.run_history.proofs.Grown.{known_after-append}
use Rattle.run_history.proofs.Sizes.{stored-sizes}
use Rattle.stop_theorem.specs.Choices.{with_thread}
use Rattle.stop_theorem.specs.Layouts.{Layout}
use Rattle.stop_theorem.specs.Stops.{regions_of}
use Rattle.stop_theorem.specs.InvariantEvents.{Puts, known_by, line_at, word_at}
use Rattle.stop_theorem.proofs.Places.{line_same, word_same}
use Rattle.stop_theorem.proofs.Fencing.{after_fence}
use Rattle.stop_theorem.specs.RegionLaws.{number_of}
use Rattle.stop_theorem.specs.Conditions.{AtEachStop, StoresAt, IsWrittenBack, RaisesCount}
use Rattle.stop_theorem.specs.Running.{State, known_at, act_now, with_act, with_memory, Event, Events, none, more, Called}
use Rattle.stop_theorem.specs.Running.{SingleStored, Written, Fenced, LogWordStored, CountRaised, RegionStored, Closing}
use Rattle.stop_theorem.specs.Running.{CountLowered, Ended}
use Rattle.stop_theorem.proofs.Quiet.{quiet_acts}
use Rattle.stop_theorem.specs.Given.{WroteBack, WroteAndFenced, with_fenced_store, FencedStoresAreEvents, BeginIsAnEvent}
use Rattle.stop_theorem.specs.Given.{IsDurableLog, ShowsEntry, EntryWordsAreEvents, CountedEntriesAreEvents}
use Rattle.stop_theorem.specs.Given.{RegionStoresAreEvents, ClosingIsAnEvent, EmptiedLogsAreEvents, EndedRegionsAreEvents}

-- ---- calls

pub called : (first : Knowledge) (s : State) (new : Memory) → KeepsShown s.memory new → OneCall s.memory new
    → s.memory.calls < 2 ^ 64
    → Event first s (with_memory s new)
called first s new keeps count fits = Called s new keeps (inr count) (omega (arith, count.calls, fits))

wrote_and_fenced : (first : Knowledge) (s : State) (line : ℕ) (new : Memory)
    → WroteAndFenced line s.memory new
    → Events first s (with_memory s new)
wrote_and_fenced first s line new w =
    more s (with_memory s w.between) (with_memory s new)
    (more s s (with_memory s w.between) (none s)
    (called first s w.between w.writes.keeps w.writes.count w.writes.fits))
    (called first (with_memory s w.between) new w.fences.keeps w.fences.count w.fences.fits)

-- what is shown, and what is durable, stays
pub shown_stays : (old new : Memory) → KeepsShown old new → (l w : ℕ) → l < old.size
    → shown new l w ≡ shown old l w
shown_stays old new keeps l w below =
    keeps.shows l w (inl (every_line_is_resident old l below))
    (inl (every_line_is_resident new l (subst (λ k. l < k) (sym keeps.size) below)))

durable_stays : (old new : Memory) → KeepsShown old new → (l w : ℕ) → l < old.size → IsDurable old l w
    → IsDurable new l w
durable_stays old new keeps l w below durable v can =
    durable v (keeps.leaves l w v can) ∙ sym (shown_stays old new keeps l w below)

module _ (line : ℕ) (old new : Memory) (w : WroteAndFenced line old new) where
  size_is : new.size ≡ old.size
  size_is = w.fences.keeps.size ∙ w.writes.keeps.size

  shows_still : (l word : ℕ) → l < old.size → shown new l word ≡ shown old l word
  shows_still l word below =
      shown_stays w.between new w.fences.keeps l word (subst (λ k. l < k) (sym w.writes.keeps.size) below)
      ∙ shown_stays old w.between w.writes.keeps l word below

  still_durable : (l word : ℕ) → l < old.size → IsDurable old l word → IsDurable new l word
  still_durable l word below durable =
      durable_stays w.between new w.fences.keeps l word (subst (λ k. l < k) (sym w.writes.keeps.size) below)
      (durable_stays old w.between w.writes.keeps l word below durable)

  now_durable : (word : ℕ) → IsDurable new line word
  now_durable word = w.fences.durable line word (w.writes.written word)

-- ---- a durable store outside regions

own_place : (us : List Unfenced) (t : ℕ) (p : Place) → owes_fence us t ≡ false
    → unfenced_at (us ++ record { thread = t; place = p } ∷ []) t ≡ Some p
own_place [] t p owes = rw (eq-eqb t t refl) refl
own_place (u ∷ us) t p owes =
    let parts = or_parts (nat_eq u.thread t) (owes_fence us t) owes in
    rw parts.0 (own_place us t p parts.1)

module _ (known : Knowledge) (t at : ℕ) (p : Place) (v : Value) where
  abbrev next : Knowledge
  next = known_by known t at (op.Stored p v) []

  owed : IsSingleStore known t p → unfenced_at next.unfenced t ≡ Some p
  unfolding known_after_op
  owed single =
      subst (λ (fate : Fate). unfenced_at
      (if is_single fate then known.unfenced ++ record {
        thread = t;
        place =
            p;
      } ∷ [] else known.unfenced) t ≡ Some p)
      (sym single.fate) (own_place known.unfenced t p single.owes_none)

  roots_are : next.world.heap.roots ≡ known.world.heap.roots
  unfolding known_after_op
  roots_are = (stored-sizes known.world.heap p v).roots

  -- the line is written back after the store
  back : (lay : Layout) (old stored written : Memory) (x : ℕ) → StoresAt known lay old stored p v x
      → IsSingleStore known t p → WroteBack (line_at lay known p) stored written
      → IsWrittenBack next lay written t p
  back lay old stored written x stores single w =
      let line : line_at lay next p ≡ line_at lay known p =
      line_same lay known.world.heap next.world.heap roots_are p in
      let word : word_at next p ≡ word_at known p = word_same known.world.heap next.world.heap roots_are p in
      record {
        owes = owed single;
        inside = subst (λ l. l < written.size) (sym line)
            (subst (λ k. line_at lay known p < k) (sym (w.keeps.size ∙ stores.puts.size)) stores.inside);
        written = subst (λ l. IsWritten written l (word_at next p)) (sym line) (w.written (word_at next p));
      }

waits_now : (waits : ℕ → Bool) (t : ℕ) → with_thread t waits t ≡ true
waits_now waits t = rw (eq-eqb t t refl) refl

pub fenced_stores : FencedStoresAreEvents
fenced_stores first s stored fenced t p v x stores outside w =
    let one : State = with_act (with_memory s stored) t (op.Stored p v) [] in
    let two : State = with_memory one w.between in
    let three : State = record two { waits = with_thread t s.waits } in
    let four : State = with_memory three fenced in
    let known_is : known_at first two ≡ known_by (known_at first s) t stored.calls (op.Stored p v) [] =
    known_after-append first s.acts (act_now (with_memory s stored) t (op.Stored p v) []) in
    let is_back : IsWrittenBack (known_at first two) s.layout w.between t p =
    subst (λ k. IsWrittenBack k s.layout w.between t p) (sym known_is)
    (back (known_at first s) t stored.calls p v s.layout s.memory stored w.between x stores outside.single
    w.writes) in
    more s four (with_fenced_store s t p v stored fenced)
    (more s three four
    (more s two three
    (more s one two
    (more s s one (none s) (SingleStored s stored t p v x stores outside))
    (called first one w.between w.writes.keeps w.writes.count w.writes.fits))
    (Written two t p is_back))
    (called first three fenced w.fences.keeps w.fences.count w.fences.fits))
    (Fenced four t (waits_now s.waits t) (λ c left. after_fence w.between fenced c w.fences.made left))

-- ---- regions

pub begin_is : BeginIsAnEvent
begin_is first s t shows = quiet_acts first s t op.Begin tt shows

log_same : (c d : Words) (t : ℕ) → log_count c t ≡ log_count d t
    → ((i : ℕ) → i < log_count d t → logged_at c t i ≡ logged_at d t i) → log_of c t ≡ log_of d t
log_same c d t count each =
    ap (λ k. first_logged c t k) count
    ∙ mapped_same (logged_at c t) (logged_at d t) 0 (log_count d t)
    (λ j low high. each j (omega (arith, high)))

logged_same : (c d : Words) (t i : ℕ) → c (log_entry_line t i) (log_entry_word i) ≡ d (log_entry_line t i)
    (log_entry_word i)
    → c (log_entry_line t i) (log_entry_word i + 1) ≡ d (log_entry_line t i) (log_entry_word i + 1)
    → logged_at c t i ≡ logged_at d t i
logged_same c d t i place old = ap (λ x.
    record { place = x; old = c (log_entry_line t i) (log_entry_word i + 1) }) place
    ∙ ap (λ y. record { place = d (log_entry_line t i) (log_entry_word i); old = y }) old

head_inside : (t size : ℕ) → t < logs → min_lines ≤ size → log_head_line t < size
head_inside t size below lines = omega (arith, below, lines)

entry_inside : (t i size : ℕ) → t < logs → i < 1024 → min_lines ≤ size → log_entry_line t i < size
entry_inside t i size below small lines = omega (arith, below, small, lines)

-- no counted entry has the word that is stored
module _ (t n second x : ℕ) (old new : Memory) (log : t < logs) (room : n < 1024) (small : second < 2)
    (count : IsDurable old (log_head_line t) 0) (most : log_count (shown old) t ≤ n)
    (fit : (u : ℕ) → u < logs → AtEachStop old (λ c. log_count c u ≤ 1024)) where
  no_head : (u : ℕ) → u < logs → log_head_line u ≡ log_entry_line t n → ⊥
  no_head u below is = omega (arith, log, room, below, is)

  -- of another log
  other_log : (u i : ℕ) → u < logs → i < 1024 → log_entry_line u i ≡ log_entry_line t n → u ≡ t
  other_log u i below there is = omega (arith, log, room, below, there, is)

  other_entry : (i word : ℕ) → word < 2 → i < n → log_entry_line t i ≡ log_entry_line t n
      → log_entry_word i + word ≡ log_entry_word n + second → ⊥
  other_entry i word w before line is = omega (arith, before, line, is, w, small)

  no_entry : (c : Outcome) → CanLeaveAll old c → (u i word : ℕ) → u < logs → i < log_count c u → word < 2
      → log_entry_line u i ≡ log_entry_line t n
      → log_entry_word i + word ≡ log_entry_word n + second → ⊥
  no_entry c left u i word below before w line is =
      let there : i < 1024 = omega (arith, before, fit u below c left) in
      let same : u ≡ t = other_log u i below there line in
      let counted : log_count c u ≤ n =
      subst (λ k. log_count c k ≤ n) (sym same)
      (subst (λ k. k ≤ n) (sym (count (c (log_head_line t) 0) (left (log_head_line t) 0))) most) in
      other_entry i word w (omega (arith, before, counted))
      (subst (λ k. log_entry_line k i ≡ log_entry_line t n) same line) is

  uncounted : (c d : Outcome) → CanLeaveAll old c
      → ((l w : ℕ) → (l ≡ log_entry_line t n → w ≢ log_entry_word n + second) → d l w ≡ c l w)
      → SameLogs c d
  uncounted c d left same = record {
    counts = λ u below. same (log_head_line u) 0 (λ line. absurd (no_head u below line));
    entries = λ u i below before. logged_same d c u i
        (same (log_entry_line u i) (log_entry_word i)
        (λ line word. no_entry c left u i 0 below before (omega arith) line (omega (arith, word))))
        (same (log_entry_line u i) (log_entry_word i + 1)
        (λ line word. no_entry c left u i 1 below before (omega arith) line word));
  }

log_line : (t n : ℕ) → t < logs → n < 1024 → is_log_line (log_entry_line t n) ≡ true
log_line t n log room =
    rw (
      le-leb (log_head_line 0) (log_entry_line t n) (omega (arith, log, room)),
      lt-ltb
          (log_entry_line t n) first_object_line (omega (arith, log, room)),
    ) refl

pub entry_words : EntryWordsAreEvents
entry_words first s new t n second x log room small lines count most fit puts =
    LogWordStored s new (log_entry_line t n) (log_entry_word n + second) x (record {
      puts = puts;
      inside = entry_inside t n s.memory.size log room lines;
      log = log_line t n log room;
      uncounted = λ c d left left_new same.
          uncounted t n second x s.memory new log room small count most fit c d left same;
    })

-- a log whose words are durable is left as it is shown
durable_log : (m : Memory) (t : ℕ) → IsDurableLog m t (log_count (shown m) t) → (c : Outcome)
    → CanLeaveAll m c
    → log_of c t ≡ log_of (shown m) t
durable_log m t d c left = log_same c (shown m) t (d.count (c (log_head_line t) 0) (left (log_head_line t) 0))
    (λ i before. logged_same c (shown m) t i
    (d.places i before (c (log_entry_line t i) (log_entry_word i))
    (left (log_entry_line t i) (log_entry_word i)))
    (d.olds i before (c (log_entry_line t i) (log_entry_word i + 1))
    (left (log_entry_line t i) (log_entry_word i + 1))))

pub region_stores : RegionStoresAreEvents
region_stores first s new t p v x old stores fate guard owes_none log durable named =
    let line = line_at s.layout (known_at first s) p in
    let word = word_at (known_at first s) p in
    RegionStored s new t p v x stores (record {
      fate = fate;
      guard = guard;
      owes_none = owes_none;
      log = log;
      named = λ c left. (
        old,
        ap (λ (entries : List Logged). old_word entries line word)
            (durable_log s.memory t durable c left) ∙ named,
      );
    })

-- an entry is counted, once it was written back and fenced
module _ (known : Knowledge) (lay : Layout) (old fenced : Memory) (t n : ℕ) (p : Place)
    (e : ShowsEntry known lay old t n p) (w : WroteAndFenced (log_entry_line t n) old fenced) (c : Outcome)
    (left : CanLeaveAll fenced c) where
  word_left : (l word : ℕ) → l < old.size → IsDurable fenced l word → c l word ≡ shown old l word
  word_left l word below durable =
      durable (c l word) (left l word) ∙ shows_still (log_entry_line t n) old fenced w l word below

  count_left : log_count c t ≡ log_count (shown old) t
  count_left =
      let below = head_inside t old.size e.log e.lines in
      word_left (log_head_line t) 0 below
      (still_durable (log_entry_line t n) old fenced w (log_head_line t) 0 below e.durable.count)

  entry_left : (i : ℕ) → i < n → logged_at c t i ≡ logged_at (shown old) t i
  entry_left i before =
      let below = entry_inside t i old.size e.log (omega (arith, before, e.room)) e.lines in
      let still = still_durable (log_entry_line t n) old fenced w (log_entry_line t i) in
      logged_same c (shown old) t i
      (word_left (log_entry_line t i) (log_entry_word i) below
      (still (log_entry_word i) below (e.durable.places i before)))
      (word_left (log_entry_line t i) (log_entry_word i + 1) below
      (still (log_entry_word i + 1) below (e.durable.olds i before)))

  new_entry_left : logged_at c t n ≡ logged_at (shown old) t n
  new_entry_left =
      let below = entry_inside t n old.size e.log e.room e.lines in
      let now = now_durable (log_entry_line t n) old fenced w in
      logged_same c (shown old) t n
      (word_left (log_entry_line t n) (log_entry_word n) below (now (log_entry_word n)))
      (word_left (log_entry_line t n) (log_entry_word n + 1) below (now (log_entry_word n + 1)))

  log_left : log_of c t ≡ log_of (shown old) t
  log_left = log_same c (shown old) t count_left
      (λ i before. entry_left i (subst (λ k. i < k) e.counts before))

raises : (known : Knowledge) (lay : Layout) (old fenced new : Memory) (t n : ℕ) (p : Place)
    → ShowsEntry known lay old t n p
    → WroteAndFenced (log_entry_line t n) old fenced → Puts (log_head_line t) 0 (suc n) fenced new
    → RaisesCount known lay fenced new t n p
raises known lay old fenced new t n p e w puts =
    let line = line_at lay known p in
    let word = word_at known p in
    let shows : shown fenced line word ≡ shown old line word =
    shows_still (log_entry_line t n) old fenced w line word (subst (λ k. line < k) (sym e.size) e.in_image) in
    record {
      log = e.log;
      room = e.room;
      puts = puts;
      inside = subst (λ k. log_head_line t < k) (sym (size_is (log_entry_line t n) old fenced w))
          (head_inside t old.size e.log e.lines);
      is_kept = e.is_kept;
      guard = e.guard;
      not_closing = e.not_closing;
      in_image = e.in_image;
      counts = λ c left. count_left known lay old fenced t n p e w c left ∙ e.counts;
      unnamed = λ c left.
          ap (λ (log : List Logged). old_word log line word) (log_left known lay old fenced t n p e w c left)
          ∙ e.unnamed;
      whole = λ c left. new_entry_left known lay old fenced t n p e w c left ∙ e.entry
          ∙ ap (λ o. record { place = number_of line word; old = o }) (sym shows);
    }

pub counted_entries : CountedEntriesAreEvents
counted_entries first s fenced new t n p e w puts =
    more s (with_memory s fenced) (with_memory s new) (wrote_and_fenced first s (log_entry_line t n) fenced w)
    (CountRaised (with_memory s fenced) new t n p
    (raises (known_at first s) s.layout s.memory fenced new t n p e w puts))

-- ---- the end of a region

regions_empty : (c : Outcome) (t : ℕ) → t < logs → c (log_head_line t) 0 ≡ 0 → regions_of c t ≡ true
regions_empty c t below is = rw (lt-ltb t logs below, eq-eqb (c (log_head_line t) 0) 0 is) refl

regions_full : (c : Outcome) (t : ℕ) → t < logs → c (log_head_line t) 0 ≢ 0 → regions_of c t ≡ false
regions_full c t below isnt = rw (lt-ltb t logs below, ne_eqb (c (log_head_line t) 0) 0 isnt) refl

pub closing_is : ClosingIsAnEvent
closing_is first s t log count some =
    Closing s t (λ c left. regions_full c t log
    (λ is. some (sym (count (c (log_head_line t) 0) (left (log_head_line t) 0)) ∙ is)))

pub emptied_logs : EmptiedLogsAreEvents
emptied_logs first s fenced new t log lines closing written count some f puts =
    let below = head_inside t s.memory.size log lines in
    let durable = durable_stays s.memory fenced f.keeps (log_head_line t) 0 below count in
    more s (with_memory s fenced) (with_memory s new)
    (more s s (with_memory s fenced) (none s) (called first s fenced f.keeps f.count f.fits))
    (CountLowered (with_memory s fenced) new t (record {
      log = log;
      puts = puts;
      inside = subst (λ k. log_head_line t < k) (sym f.keeps.size) below;
      closing = closing;
      durable = λ p kept guard.
          f.durable (line_at s.layout (known_at first s) p) (word_at (known_at first s) p)
          (written p kept guard);
      counts = λ c left. regions_full c t log (λ is. some
          (sym (durable (c (log_head_line t) 0) (left (log_head_line t) 0)
          ∙ shown_stays s.memory fenced f.keeps (log_head_line t) 0 below) ∙ is));
    }))

pub ended_regions : EndedRegionsAreEvents
ended_regions first s fenced t log lines outermost is_closing zero w =
    let below = head_inside t s.memory.size log lines in
    more s (with_memory s fenced) (with_act (with_memory s fenced) t op.End [])
    (wrote_and_fenced first s (log_head_line t) fenced w)
    (Ended (with_memory s fenced) t (record {
      outermost = outermost;
      is_closing = is_closing;
      empty = λ c left. regions_empty c t log
          (now_durable (log_head_line t) s.memory fenced w 0 (c (log_head_line t) 0)
          (left (log_head_line t) 0)
          ∙ shows_still (log_head_line t) s.memory fenced w (log_head_line t) 0 below ∙ zero);
    }))
