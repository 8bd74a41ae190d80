-- What a stop leaves of an image that is attached, opened for a class set, and then run on.
use Rattle.std.proofs.Math.Path.{fun_ext}
use Rattle.std.proofs.Common.{◌≡◌, ◌⊎◌, inl, inr, ⊎_elim, ℕ, ◌<◌, ◌≤◌, ◌+◌, ◌-◌, ◌^◌, List, [], ◌∷◌, Option, Some, None}
use Rattle.std.proofs.Common.{refl, ap, sym, subst, arith}
use Rattle.std.specs.Prelude.{◌≢◌, All}
use Rattle.std.proofs.Math.Seq.{take-nil}
use Rattle.std.proofs.lemmas.Bool.{cases_lt, le-ltb}
use Rattle.std.proofs.lemmas.List.Elements.{All-head, All-tail}
use Rattle.graph_model.specs.declared.types.Graph.{Graph}
use Rattle.line_image.specs.Trace.{Trace, Outcome, IsAllFenced, LeavesNow, LeftWithin, read_word}
use Rattle.line_image.specs.Told.{Told}
use Rattle.line_memory.specs.Memory.{Memory, ReadsWord, IsTelling, CanLeaveAll, shown}
use Rattle.line_memory.specs.Moments.{Goes, CountsFrom}
use Rattle.line_memory.proofs.Chain.{goes_on}
use Rattle.image_meaning.specs.Appending.{with_all_too}
use Rattle.image_meaning.specs.Checks.{Words}
use Rattle.image_meaning.specs.Directories.{Directory, with_all}
use Rattle.image_meaning.specs.Entries.{DirectoryEntry}
use Rattle.image_meaning.specs.Laws.{Opens}
use Rattle.image_meaning.specs.Meaning.{StandsFor, meaning}
use Rattle.image_meaning.proofs.Standings.{stands-within}
use Rattle.image_recovery.specs.Recovered.{entries_in}
use Rattle.image_recovery.proofs.Directories.{has_by_lines}
use Rattle.word_changes.specs.Changes.{StopsLeave}
use Rattle.directories.specs.ClassSets.{AreEntriesOf}
use Rattle.directories.specs.Planning.{lacking}
use Rattle.run_history.specs.Recorded.{Recorded}
use Rattle.run_history.specs.Kept.{acts_before}
use Rattle.plain_model.specs.First.{first_known}
use Rattle.class_set.specs.Linked.{Linked}
use Rattle.class_set.specs.Facts.{facts_of}
use Rattle.class_set.specs.Sets.{made_of}
use Rattle.stop_theorem.specs.Stops.{IsAllowedImage}
use Rattle.stop_theorem.specs.Laws.{IsSafeRun}
use Rattle.durable_launch.specs.Passed.{AreRead, IsAttached, IsSettled}
use Rattle.durable_launch.specs.Passed.{AllAgree, HasDirectory, IsDirectoryIn, IsOpenedFor, StandsWithFirst, StandsWithNew}
use Rattle.durable_launch.specs.Passed.{with_arrays_of}
use Rattle.durable_launch.proofs.Passed.{agree_before, one_directory, standing_has, standing_spells}
use Rattle.class_runs.specs.Sets.{IsOpenedSo, StandsAllowed, StandsAsBefore, StandsAtStops, StandsRightly, StandsStill}
use Rattle.class_runs.proofs.Reading.{fenced_as_read, same_graph, sized}

pub none_before : (n : ℕ) (acts : List Recorded) → All (λ (a : Recorded). n ≤ a.act.at) acts → acts_before n acts ≡ []
none_before n [] late = refl
none_before n (a ∷ acts) late =
    let here = All-head (λ (b : Recorded). n ≤ b.act.at) a acts late in
    rw (le-ltb a.act.at n here) (none_before n acts (All-tail (λ (b : Recorded). n ≤ b.act.at) a acts late))

-- ---- images that were attached

-- the words stand for the graph, or for it with the first of the set's new entries
abbrev WithNew : Linked → ℕ → Words → Graph → Outcome → Type 0
WithNew set size before graph c = StandsStill size before graph c ⊎ StandsWithNew set size before graph c

-- where these entries are appended, so it is with the first of them
abbrev pub AddsNew : Linked → ℕ → Words → List DirectoryEntry → Type 0
AddsNew set size before added = (graph : Graph) (found : Directory) (c : Outcome) → IsDirectoryIn before found
    → StandsWithFirst size found graph added c → WithNew set size before graph c

-- none are
pub adds_none : (set : Linked) (size : ℕ) (before : Words) → AddsNew set size before []
adds_none set size before graph found c found_is first =
    inl (record {
      found = found;
      found_is = found_is;
      stands = subst (λ (entries : List DirectoryEntry). StandsFor size c (with_all_too graph entries)) (take-nil first.count)
          first.stands;
      has = subst (λ (entries : List DirectoryEntry). HasDirectory size c (with_all found entries)) (take-nil first.count) first.has;
    })

-- those that the directory lacks
pub adds_lacking : (set numbered : Linked) (size : ℕ) (before : Words) (found : Directory) (entries : List DirectoryEntry)
    → IsDirectoryIn before found → numbered ≡ with_arrays_of set found.shapes
    → AreEntriesOf (facts_of numbered) (made_of numbered) entries
    → AllAgree (facts_of numbered) (with_all found (lacking found entries)).shapes → AddsNew set size before (lacking found entries)
adds_lacking set numbered size before found entries found_is set_is are_its agree graph other c other_is first =
    let added = lacking found entries in
    inr (record {
      found = found;
      found_is = found_is;
      entries = entries;
      are_its = subst (λ (s : Linked). AreEntriesOf (facts_of s) (made_of s) entries) set_is are_its;
      first = subst (λ (d : Directory). StandsWithFirst size d graph added c) (one_directory before other found other_is found_is) first;
      agree = agree_before set found.shapes (with_all found added).shapes
          (subst (λ (s : Linked). AllAgree (facts_of s) (with_all found added).shapes) set_is agree);
    })

-- words that are the same in all lines stand for the same, and have the same directory
pub still_stands : (size : ℕ) (before c : Words) (graph : Graph) → StandsFor size before graph
    → ((l w : ℕ) → l < size → c l w ≡ before l w) → StandsStill size before graph c
still_stands size before c graph stands same =
    let range = sized size before graph stands in
    let spelled = standing_spells size before graph stands in
    record {
      found = spelled.0;
      found_is = spelled.1;
      stands = stands-within size before c graph range.0 range.1 stands same;
      has = has_by_lines size before c spelled.0 range.0 (standing_has size before graph spelled.0 stands spelled.1) same;
    }

module _ (start : Told) (settled : IsSettled start) (before : Memory) (attached : IsAttached start before) where
  -- what a settled image leaves is what is shown
  pub as_shown : (c : Outcome) → LeavesNow start.trace c → (l w : ℕ) → l < before.size → c l w ≡ shown before l w
  as_shown c left l w below =
      let size = attached.size in
      fenced_as_read start.trace settled.0 settled.1 c left l w (shown before l w)
      (attached.shows l w (omega (arith, below, size)))

-- and opened for a set
module _ (start : Told) (settled : IsSettled start) (set : Linked) (before : Memory) (attached : IsAttached start before) where
  abbrev New : ℕ → Graph → Outcome → Type 0
  New size graph c = WithNew set size (shown before) graph c

  still : (graph : Graph) → StandsFor before.size (shown before) graph → (c : Outcome) → LeavesNow start.trace c
      → New before.size graph c
  still graph stands c left =
      inl (still_stands before.size (shown before) c graph stands (as_shown start settled before attached c left))

  -- these entries may be appended
  abbrev Adds : List DirectoryEntry → Type 0
  Adds added = AddsNew set before.size (shown before) added

  -- each stop since the start left the graph for which the image stood, with some null roots
  pub goes_since : (m : Memory) (added : List DirectoryEntry) → Adds added → (graph : Graph) (found : Directory)
      → StandsFor before.size (shown before) graph → IsDirectoryIn (shown before) found
      → StopsLeave before m (StandsWithFirst before.size found graph added) → Goes start m.image (New before.size graph)
  goes_since m added adds graph found stands spells stops =
      goes_on start before.image m.image (LeavesNow start.trace) (StandsWithFirst before.size found graph added)
      (New before.size graph) attached.moments stops.within (still graph stands) (λ c first. adds graph found c spells first)

  sized_as : (graph : Graph) (c : Outcome) → New before.size graph c → New start.size graph c
  sized_as graph c some = subst (λ (n : ℕ). New n graph c) attached.size some

  stood : (graph : Graph) → StandsFor start.size (shown before) graph → StandsFor before.size (shown before) graph
  stood graph stands = subst (λ (n : ℕ). StandsFor n (shown before) graph) (sym attached.size) stands

  -- what each stop leaves, for whatever graph the image stood, and whatever directory it had
  abbrev AllStop : Memory → List DirectoryEntry → Type 0
  AllStop m added = (graph : Graph) (found : Directory) → StandsFor before.size (shown before) graph
      → IsDirectoryIn (shown before) found → StopsLeave before m (StandsWithFirst before.size found graph added)

  pub as_before_within : (m : Memory) (added : List DirectoryEntry) → Adds added → AllStop m added → (n : ℕ) → 0 < n → start.calls + n ≤ m.image.calls
      → start.calls + n < 2 ^ 64 - 1 → (c : Outcome) → LeftWithin m.image.trace (start.calls + n) c
      → StandsAsBefore set start.size (shown before) c
  as_before_within m added adds stops n some le lt c left graph stands =
      let there = stood graph stands in
      let spelled = standing_spells before.size (shown before) graph there in
      sized_as graph c ((goes_since m added adds graph spelled.0 there spelled.1 (stops graph spelled.0 there spelled.1)).during
      (start.calls + n) (omega (arith, some)) le lt c left)

-- behind the fence that the opening begins with, whatever was unfenced at the start
module _ (start : Told) (set : Linked) (before : Memory) (attached : IsAttached start before) (m : Memory) (added : List DirectoryEntry)
    (adds : AddsNew set before.size (shown before) added)
    (stops : (graph : Graph) (found : Directory) → StandsFor before.size (shown before) graph → IsDirectoryIn (shown before) found
    → StopsLeave before m (StandsWithFirst before.size found graph added)) where
  sized_so : (graph : Graph) (c : Outcome) → WithNew set before.size (shown before) graph c
      → WithNew set start.size (shown before) graph c
  sized_so graph c some = subst (λ (n : ℕ). WithNew set n (shown before) graph c) attached.size some

  stood_so : (graph : Graph) → StandsFor start.size (shown before) graph → StandsFor before.size (shown before) graph
  stood_so graph stands = subst (λ (n : ℕ). StandsFor n (shown before) graph) (sym attached.size) stands

  pub as_before_late : (n : ℕ) → start.size + 1 < n → start.calls + n ≤ m.image.calls → start.calls + n < 2 ^ 64 - 1
      → (c : Outcome) → LeftWithin m.image.trace (start.calls + n) c → StandsAsBefore set start.size (shown before) c
  as_before_late n late le lt c left graph stands =
      let counts = attached.counts in
      let calls = attached.calls in
      let there = stood_so graph stands in
      let spelled = standing_spells before.size (shown before) graph there in
      sized_so graph c (adds graph spelled.0 c spelled.1
      ((stops graph spelled.0 there spelled.1).within.during (start.calls + n) (omega (arith, late, counts, calls)) le lt c left))

  pub as_before_now : (c : Outcome) → LeavesNow m.image.trace c → StandsAsBefore set start.size (shown before) c
  as_before_now c left graph stands =
      let there = stood_so graph stands in
      let spelled = standing_spells before.size (shown before) graph there in
      sized_so graph c (adds graph spelled.0 c spelled.1 ((stops graph spelled.0 there spelled.1).after c (λ l w. inr (left l w))))

  -- up to it, where nothing was
  pub as_before_at : IsTelling start.trace → (n : ℕ) → 0 < n → start.calls + n ≤ m.image.calls → start.calls + n < 2 ^ 64 - 1
      → (n ≤ start.size + 1 → IsAllFenced start.trace) → (c : Outcome) → LeftWithin m.image.trace (start.calls + n) c
      → StandsAsBefore set start.size (shown before) c
  as_before_at telling n some le lt fenced c left = ⊎_elim
      (λ (late : start.size + 1 < n). as_before_late n late le lt c left)
      (λ (first : n ≤ start.size + 1).
      as_before_within start (telling, fenced first) set before attached m added adds stops n some le lt c left)
      (cases_lt (start.size + 1) n)

  -- there was no first turn
  pub stops_without : IsTelling start.trace → (opening : Graph) → StandsAtStops set start opening [] m.image
  stops_without telling opening = record {
    words = shown before;
    read = attached.shows;
    within = λ n some le lt fenced c left.
        inr (refl, as_before_at telling n some le lt (λ first. fenced (inl first)) c left);
    now = λ fenced c left. inr (refl, as_before_now c left);
  }

-- ---- images that were opened

module _ (start : Told) (telling : IsTelling start.trace) (set numbered : Linked) (m : Memory) (directory : _) (lines : List ℕ) (graph : Graph)
    (free : ℕ) (opened : IsOpenedFor start set numbered m directory lines graph free) where
  abbrev pub added : List DirectoryEntry
  added = lacking opened.found opened.entries

  pub all_stop : (other : Graph) (spelled : Directory) → StandsFor opened.before.size (shown opened.before) other
      → IsDirectoryIn (shown opened.before) spelled
      → StopsLeave opened.before m (StandsWithFirst opened.before.size spelled other added)
  all_stop other spelled stands spells =
      subst (λ (d : Directory). StopsLeave opened.before m (StandsWithFirst opened.before.size d other added))
      (one_directory (shown opened.before) opened.found spelled opened.found_is spells)
      (subst (λ (g : Graph). StopsLeave opened.before m (StandsWithFirst opened.before.size opened.found g added))
      (same_graph (meaning opened.before.size (shown opened.before)) opened.stood other opened.stands stands) (opened.stops telling))

  -- what is appended are the set's entries that the directory lacked
  pub adds : AddsNew set opened.before.size (shown opened.before) added
  adds =
      adds_lacking set numbered opened.before.size (shown opened.before) opened.found opened.entries opened.found_is opened.set_is
      opened.are_its
      (subst (λ (d : Directory). AllAgree (facts_of numbered) d.shapes) opened.directory_is opened.agree)

  pub stops_opened : (opening : Graph) → StandsAtStops set start opening [] m.image
  stops_opened opening = stops_without start set opened.before opened.attached m added adds all_stop telling opening

  -- ---- and on which a run went on

  module _ (opening : Graph) (acts : List Recorded) (end : Memory)
      (safe : IsSafeRun (first_known (facts_of numbered) graph) m.size (entries_in directory) start.calls m acts end)
      (counts : CountsFrom start.calls m)
      (now : (c : Outcome) → CanLeaveAll end c
      → IsAllowedImage (first_known (facts_of numbered) graph) m.size (entries_in directory) acts c)
      (from : acts ≢ [] → opening ≡ graph) (size : m.size ≡ start.size) where
    abbrev of : IsOpenedSo set start graph
    of = record { numbered = numbered; memory = m; directory = directory; lines = lines; free = free; opened = opened }

    allowed : (some : List Recorded) (c : Outcome)
        → IsAllowedImage (first_known (facts_of numbered) graph) m.size (entries_in directory) some c
        → StandsAllowed set start opening acts some c
    allowed some c is = record {
      graph = graph;
      of = of;
      from = from;
      opens = subst (λ (n : ℕ). Opens n c (entries_in directory)) size is.opens;
      allowed = subst (λ (n : ℕ). IsAllowedImage (first_known (facts_of numbered) graph) n (entries_in directory) some c)
          size is;
    }

    all_late : (n : ℕ) → n ≤ m.calls → All (λ (a : Recorded). n ≤ a.act.at) acts
    all_late n le k d below = omega (arith, le, safe.late k d below)

    early : (n : ℕ) → 0 < n → start.calls + n < 2 ^ 64 - 1 → n ≤ m.calls → (n ≤ start.size + 1 → IsAllFenced start.trace)
        → (c : Outcome) → LeftWithin end.image.trace (start.calls + n) c
        → StandsRightly set start opening acts (acts_before n acts) (shown opened.before) c
    early n some lt le fenced c left =
        let within : start.calls + n ≤ m.image.calls = omega (arith, counts, le, lt) in
        let there : LeftWithin m.image.trace (start.calls + n) c =
        subst (λ (o : Option Trace). LeavesNow o c) (safe.before (start.calls + n) within lt) left in
        inr (
          none_before n acts (all_late n le),
          as_before_at start set opened.before opened.attached m added adds all_stop telling n some within lt fenced c there,
        )

    pub stops_run : StandsAtStops set start opening acts end.image
    stops_run = record {
      words = shown opened.before;
      read = opened.attached.shows;
      within = λ n some le lt fenced c left. ⊎_elim
          (λ (after : m.calls < n). inl (allowed (acts_before n acts) c
          (safe.within n some (omega (arith, safe.counts, le, lt)) lt c left after)))
          (λ (first : n ≤ m.calls). early n some lt first (λ read. fenced (inl read)) c left)
          (cases_lt m.calls n);
      now = λ fenced c left. inl (allowed acts c (now c (λ l w. inr (left l w))));
    }

-- ---- an image that couldn't be attached

-- the words that reads give, where the image tells them
abbrev words_read : Option Trace → Words
words_read None = λ l w. 0
words_read (Some h) = λ l w. read_word h l w

are_read : (start : Told) → AreRead start (words_read start.trace)
are_read start l w below = by_history start.trace l w
  where
    by_history : (o : Option Trace) (l w : ℕ) → ReadsWord o l w (words_read o l w)
    by_history None l w = tt
    by_history (Some h) l w = refl

is_read : (o : Option Trace) → IsAllFenced o → (c : Outcome) → LeavesNow o c → c ≡ words_read o
is_read None settled c left = absurd (left 0 0)
is_read (Some h) settled c left = fun_ext (λ l. fun_ext (λ w. settled l w (c l w) (left l w)))

pub stops_unattached : (set : Linked) (start : Told) (opening : Graph) (after : Told) → after.trace ≡ start.trace
    → Goes start after (LeavesNow start.trace) → StandsAtStops set start opening [] after
stops_unattached set start opening after same goes =
    let quiet : IsAllFenced start.trace → (c : Outcome) → LeavesNow start.trace c
    → StandsAsBefore set start.size (words_read start.trace) c =
    λ fenced c left graph stands.
    inl (still_stands start.size (words_read start.trace) c graph stands (λ l w below.
    ap (λ (words : Words). words l w) (is_read start.trace fenced c left))) in
    record {
      words = words_read start.trace;
      read = are_read start;
      within = λ n some le lt fenced c left.
          inr (refl, quiet (fenced (inr (refl, same))) c (goes.during (start.calls + n) (omega (arith, some)) le lt c left));
      now = λ fenced c left. inr (refl, quiet (fenced (refl, same)) c (subst (λ (o : Option Trace). LeavesNow o c) same left));
    }
