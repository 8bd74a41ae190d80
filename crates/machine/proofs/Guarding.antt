-- A place that a region guards before its store: the act, a full log, and a race.
use Rattle.std.proofs.Common.{◌≡◌, inl, inr, ℕ, ◌<◌, ◌≤◌, true, false, List, [], ◌∷◌, ◌++◌, length, Some, None, refl, sym, ◌∙◌}
use Rattle.std.proofs.Common.{ap, subst, arith}
use Rattle.std.proofs.lemmas.Bool.{cases_lt}
use Rattle.std.proofs.lemmas.List.{get_or-set_same}
use Rattle.ap_base.specs.declared.place.Place.{Place}
use Rattle.ap_base.specs.declared.place.Spot.{Spot}
use Rattle.ap_base.specs.declared.reference.Ref.{Ref}
use Rattle.ap_base.specs.declared.reference.Item.{Item}
use Rattle.graph_model.specs.declared.types.Value.{Value}
use Rattle.natives.specs.declared.requests.Request.{Request}
use Rattle.run_types.specs.declared.fault.StepFault.{StepFault}
use Rattle.run_types.specs.declared.fault.StepFault.TheVariants as met
use Rattle.run_types.specs.Faults.{run_fault}
use Rattle.run_types.specs.declared.fault.Which.TheVariants as which
use Rattle.run_history.specs.declared.act.Op.TheVariants as op
use Rattle.run_history.specs.Recorded.{History, Recorded, with_act}
use Rattle.run_history.specs.Knowing.{durable_at, guard_of}
use Rattle.plain_model.specs.Facts.{SetFacts}
use Rattle.plain_model.specs.Runs.{is_volatile}
use Rattle.run_forms.specs.Views.{ThreadFrames}
use Rattle.run_forms.specs.Ends.{IsEndedBy}
use Rattle.region_log.specs.declared.entry.Entry.{Entry as LogEntry}
use Rattle.region_log.specs.declared.entry.Underway.{Underway}
use Rattle.region_log.specs.declared.entry.Underway.TheVariants.{Nothing as Idle}
use Rattle.region_log.specs.Guarding.{IsGuarded, is_adding}
use Rattle.region_log.specs.Log.{Log, most_entries}
use Rattle.region_log.specs.Readers.{is_ending}
use Rattle.region_events.specs.Guards.{named_count}
use Rattle.region_events.specs.Laws.{with_entry}
use Rattle.twin_forms.specs.Table.{Entry}
use Rattle.two_spaces.specs.Whole.{Stands}
use Rattle.machine_threads.specs.Passed.{Opening, Machine, empty_log, known_in, log_of, memory_of}
use Rattle.machine_threads.specs.Passed.{GuardsPlace, RegionStep, act_in, value_in, with_guarded}
use Rattle.machine_threads.specs.RegionEvents as region
use Rattle.machine_threads.proofs.Passed.{place-inside}
use Rattle.machine_threads.specs.Passed.{StoresFreely, room as has_room}
use Rattle.object_steps.specs.declared.storing.Store.{Store}
use Rattle.object_steps.specs.Stores.{place_of}
use Rattle.shared_heap.specs.Passed.{MayFollow}
use Rattle.shared_heap.specs.Passed.{IsApart, LogsFirst, Races}
use Rattle.shared_heap.specs.Shared.{Shared}
use Rattle.shared_heap.specs.Regions.{GuardsTo, LiesAt, entry_at}
use Rattle.machine.specs.declared.events.Event.TheVariants.{Micro, Over}
use Rattle.machine.specs.declared.events.Halt.TheVariants.{Met}
use Rattle.machine.specs.Halts.{lacks}
use Rattle.machine.specs.Ended.{HasPlanned, HasSomePlanned, StoreComesTo}
use Rattle.machine.specs.Events.{Comes, HasImageCause}
use Rattle.machine.specs.Laws.{Laws}
use Rattle.machine.proofs.Awaiting.{awaits-free}
use Rattle.machine.proofs.Basics.{not-longer, shared-is}
use Rattle.machine.proofs.Bound.{act-measured}
use Rattle.machine.proofs.Faults.{none-more}
use Rattle.machine.proofs.Freely.{freely, guarded-by}
use Rattle.machine.proofs.Leaving.{few, happened, as-they-were, stays-on, AsksStill}
use Rattle.machine.proofs.Memory.{same-image}
use Rattle.machine.proofs.Planned.{is-free, is-store, kept-durable, waits-none}
use Rattle.machine_threads.specs.Happening as event
use Rattle.machine_threads.specs.Keeping.{AsksSomeStore, LagsByItsLog}

unfailed : (f : StepFault) (before : ℕ) → (f ≡ met.ImageFault → ⊥) → HasImageCause (Over (Met f)) before before
unfailed met.ImageFault before other = absurd (other refl)
unfailed f before other = refl

-- an entry is added for a thread that asks a store
adding-lags : (o : Opening) (m : Machine) (t : ℕ) (word : LogEntry) (place : Place) (fs : ThreadFrames) → t < 64
    → length m.logs ≡ 64 → AsksSomeStore o.launch fs
    → LagsByItsLog o.launch (log_of (with_guarded m t place word) t).underway fs
adding-lags o m t word place fs below many store = subst (λ (log : Log). LagsByItsLog o.launch log.underway fs)
    (sym (get_or-set_same m.logs t (with_entry (log_of m t) word) (empty_log t) (omega (arith, below, many)))) store

-- ---- logs about nothing

idle-not-adding : (u : Underway) → u ≡ Idle → is_adding u ≡ false
idle-not-adding u is = ap is_adding is

idle-not-ending : (u : Underway) → u ≡ Idle → is_ending u ≡ false
idle-not-ending u is = ap is_ending is

pub idle-count : (log : Log) → log.underway ≡ Idle → named_count log ≡ length log.entries
idle-count log is = ap (λ (u : Underway). named_count (record log { underway = u })) is ∙ omega arith

module _ (laws : Laws) (o : Opening) (first : ℕ) (set : SetFacts) (s : Shared) (es : List Entry)
    (threads : List ThreadFrames) (t : ℕ) (fs : ThreadFrames) (request : Request Ref Item) (store : Store)
    (h : HasPlanned o first set s es threads t fs request store)
    (room : length s.history.acts < s.history.limit) where
  abbrev goal : Place
  goal = place_of store.target

  abbrev value : Value
  value = value_in s.machine store.kept

  -- a run that the store's request ends, with nothing done
  pub store-over : (f : StepFault) → ((lines : ℕ) → IsEndedBy o.launch lines s.machine.acts t (run_fault f))
      → (f ≡ met.ImageFault → ⊥) → Comes o first es threads t fs request (Over (Met f)) s s
  store-over f ends other = record {
    goes = record {
      after = es;
      keeps = h.due.running.keeps;
      plain = h.due.running.plain;
      history = refl;
      acts = refl;
      ends = ends _;
    };
    acts = refl;
    calls = inl (same-image (memory_of s.machine) (memory_of s.machine) refl);
    cause = unfailed f _ other;
    answers = tt;
    finds = tt;
    awaits = λ u w. tt;
    numbers = refl;
    quiet = λ micro same. absurd (let no = micro in cc);
    waits = λ on no. absurd (let e = no in cc);
    work = tt;
    asks = refl;
    noted = refl;
  }

  -- ---- a race

  module _ (other : ℕ) (races : Races s.machine.spaces es s.machine.logs t goal other) where
    guard-races : guard_of (known_in o s.machine).guards goal ≡ Some other
    guard-races = ((laws.barriers.guards o s.machine es h.due.running.keeps goal races.spot
        (laws.barriers.kept o s.machine es h.due.running.keeps store h.planned.ready.can races.place.durable)
        (laws.barriers.words o s.machine es h.due.running.keeps goal races.spot races.place)).by other).0
        races.guards

    pub race-comes : Comes o first es threads t fs request (Over (Met (met.RegionRace t other goal))) s s
    race-comes = store-over (met.RegionRace t other goal) (λ lines. laws.ends.races o s.machine es threads
        h.due.running.keeps h.due.running.plain lines t other fs request goal store.kept h.ready h.due.asks
        (is-store laws o first set s es threads t fs request store h) guard-races races.differs
        (few laws o first set s es threads t fs request h.due room)) (λ e. let no = e in cc)

  -- ---- a place that is to be logged first

  module _ (apart : IsApart s.machine.spaces s.machine.logs t goal) (follows : MayFollow s.machine.spaces store)
      (spot : Spot) (logs : LogsFirst s.machine.spaces es s.machine.logs t goal spot) where
    durable : durable_at (known_in o s.machine) goal ≡ true
    durable = (laws.barriers.places o s.machine es h.due.running.keeps goal).1 logs.place.durable

    not-adding : is_adding (log_of s.machine t).underway ≡ false
    not-adding = idle-not-adding (log_of s.machine t).underway h.idle

    nobody : (u : ℕ) → IsGuarded (log_of s.machine u) spot → ⊥
    nobody = elim logs.lacks [
      | inl adding ↦ λ u is. absurd (let no : true ≡ false = sym adding ∙ not-adding in cc)
      | inr none ↦ none
    ]

    unguarded : guard_of (known_in o s.machine).guards goal ≡ None
    unguarded = (guarded-by laws o first set s es threads t fs request store h apart logs.place.durable spot
        logs.place).nobody.0 nobody

    kept : is_volatile (known_in o s.machine).durable value ≡ false
    kept = kept-durable laws o first set s es threads t fs request store h follows durable

    -- ---- the log is full

    module _ (enough : length (log_of s.machine t).entries ≡ most_entries) where
      pub full-comes : Comes o first es threads t fs request (Over (Met (lacks which.LogEntries 1 0))) s s
      full-comes = store-over (lacks which.LogEntries 1 0) (λ lines. laws.ends.logs o s.machine es threads
          h.due.running.keeps h.due.running.plain lines t fs request goal store.kept h.ready h.due.asks
          (is-store laws o first set s es threads t fs request store h) (record {
            is_open = logs.is_open;
            full = (let count = idle-count (log_of s.machine t) h.idle in omega (arith, count, enough));
            durable = durable;
            unguarded = unguarded;
            kept = kept;
          }) (few laws o first set s es threads t fs request h.due room)) (λ e. let no = e in cc)

    -- ---- the log has room

    module _ (log_room : length (log_of s.machine t).entries < most_entries) (new : Shared)
        (x : GuardsTo t goal spot s new) where
      abbrev word : LogEntry
      word = entry_at s spot

      guards : GuardsPlace o s.machine es t request goal store.kept word
      guards = record {
        thread = h.due.thread;
        stores = is-store laws o first set s es threads t fs request store h;
        doing = is-free laws o first set s es threads t fs request store h follows;
        durable = durable;
        kept = kept;
        may = laws.barriers.may o s.machine es h.due.running.keeps t store h.planned.ready.can
            logs.place.durable apart spot _ logs not-adding
            (idle-not-ending (log_of s.machine t).underway h.idle) log_room refl;
      }

      abbrev region-step : RegionStep o t s.machine es (with_guarded s.machine t goal word)
      region-step = region.guarded request goal store.kept word guards

      abbrev act : Recorded
      act = act_in s.machine t (op.Guarded goal) []

      abbrev guarded_now : Shared
      guarded_now = record {
        machine = with_guarded s.machine t goal word;
        history = with_act s.history act.act;
        lines = s.lines;
        notes = s.notes;
      }

      guarded-is : new ≡ guarded_now
      guarded-is = shared-is new _ _ _ _ x.machine x.history x.lines x.notes

      free : StoresFreely o s.machine t goal value
      free = freely laws o first set s es threads t fs request store h apart (λ _ none. has_room none
          (let count = idle-count (log_of s.machine t) h.idle in omega (arith, count, log_room)))

      guarded-comes : Comes o first es threads t fs request Micro s guarded_now
      guarded-comes =
          let still : AsksStill o guarded_now.machine t fs = record {
            lags = (h.due.running.all.each t fs h.due.asks.frames).lags;
            logs = adding-lags o s.machine t word goal fs h.due.thread h.due.running.keeps.asked.regions.many
                (request, h.due.asks.asks, h.gives);
          } in
          let now = happened laws o first set s es threads t fs request h.due (event.region _ region-step) [] h.due.asks
          tt tt (as-they-were laws o first set s es threads t fs request h.due guarded_now.machine still) in record {
            goes = stays-on laws o first set s es threads t fs request h.due guarded_now es now refl refl refl
                (ap (λ (xs : List Recorded). xs ++ act ∷ []) h.due.running.acts) refl h.due.running.unnamed refl refl
                refl
                (none-more o.launch s.machine.acts act h.due.running.unfaulted (λ lines.
                laws.ends.stores_meet o s.machine es threads h.due.running.keeps h.due.running.plain
                lines t fs request goal store.kept h.ready h.due.asks
                (is-store laws o first set s es threads t fs request store h) free
                (few laws o first set s es threads t fs request h.due room)));
            acts = inr (record { act = act; thread = refl; acts = refl });
            calls = inl (same-image (memory_of s.machine) (memory_of s.machine) refl);
            cause = refl;
            answers = tt;
            finds = λ logs. waits-none laws o first set s es threads t fs request store h;
            awaits = awaits-free o s.machine t es h.due.running.keeps.heap.agrees guards.doing Micro;
            numbers = refl;
            quiet = λ micro same. not-longer s.history.acts act same;
            waits = λ on no. absurd (let e = no in cc);
            work = act-measured s guarded_now refl refl Micro act refl (let more = laws.work.guards.guarded o s.machine es
                h.due.running.keeps h.due.running.unwritten t request goal store.kept word guards in omega (arith, more));
            asks = refl;
            noted = refl;
          }

      pub guarded-store : Comes o first es threads t fs request Micro s new
      guarded-store = subst (Comes o first es threads t fs request Micro s) (sym guarded-is) guarded-comes

    -- ---- what a guard is given

    pub spot-inside : spot.line < (memory_of s.machine).size
    spot-inside =
        let at = laws.barriers.words o s.machine es h.due.running.keeps goal spot logs.place in
        let below = place-inside o s.machine es h.due.running.keeps goal
        (laws.barriers.kept o s.machine es h.due.running.keeps store h.planned.ready.can logs.place.durable) in
        let line = at.line in
        let size = h.due.running.keeps.heap.size in
        omega (arith, below, line, size)

    pub spot-free : (u : ℕ) → IsGuarded (log_of s.machine u) spot → ⊥
    spot-free = nobody

-- ---- of each run

pub race-comes-to : Laws → (s : Shared) (t : ℕ) (store : Store) (other : ℕ) → length s.history.acts < s.history.limit
    → ((es : List Entry) → Stands s.machine.spaces es
    → Races s.machine.spaces es s.machine.logs t (place_of store.target) other)
    → StoreComesTo t store (Over (Met (met.RegionRace t other (place_of store.target)))) s s
race-comes-to laws s t store other room races = record {
  comes = λ o first set es threads fs request h. race-comes laws o first set s es threads t fs request store h room other
      (races es h.due.running.keeps.heap.whole);
  sink = record { acts = inl refl; fault = tt };
}

module _ (laws : Laws) (s : Shared) (t : ℕ) (store : Store) (room : length s.history.acts < s.history.limit)
    (apart : IsApart s.machine.spaces s.machine.logs t (place_of store.target))
    (follows : MayFollow s.machine.spaces store) (spot : Spot)
    (logs : (es : List Entry) → Stands s.machine.spaces es
    → LogsFirst s.machine.spaces es s.machine.logs t (place_of store.target) spot) where
  pub full-comes-to : length (log_of s.machine t).entries ≡ most_entries
      → StoreComesTo t store (Over (Met (lacks which.LogEntries 1 0))) s s
  full-comes-to enough = record {
    comes = λ o first set es threads fs request h. full-comes laws o first set s es threads t fs request store h room apart follows
        spot (logs es h.due.running.keeps.heap.whole) enough;
    sink = record { acts = inl refl; fault = tt };
  }

  pub guarded-comes-to : length (log_of s.machine t).entries < most_entries → (new : Shared)
      → GuardsTo t (place_of store.target) spot s new → StoreComesTo t store Micro s new
  guarded-comes-to log_room new x = record {
    comes = λ o first set es threads fs request h. guarded-store laws o first set s es threads t fs request store h room apart
        follows spot (logs es h.due.running.keeps.heap.whole) log_room new x;
    sink = record { acts = inr (_, ap (λ (y : History). y.acts) x.history, tt); fault = tt };
  }

  -- ---- what a guard is given

  pub is-inside : HasSomePlanned s t store → spot.line < (memory_of s.machine).size
  is-inside (o, first, set, es, threads, fs, request, h) = spot-inside laws o first set s es threads t fs request store h room apart
      follows spot (logs es h.due.running.keeps.heap.whole)

  pub lies-at : HasSomePlanned s t store → LiesAt s.machine.spaces (place_of store.target) spot
  lies-at (o, first, set, es, threads, fs, request, h) = record {
    es = es;
    stands = h.due.running.keeps.heap.whole;
    at = (logs es h.due.running.keeps.heap.whole).place;
  }

  pub is-free-of : HasSomePlanned s t store → (u : ℕ) → IsGuarded (log_of s.machine u) spot → ⊥
  is-free-of (o, first, set, es, threads, fs, request, h) = spot-free laws o first set s es threads t fs request store h room apart
      follows spot (logs es h.due.running.keeps.heap.whole)

  pub is-open : HasSomePlanned s t store → 0 < (log_of s.machine t).depth
  is-open (o, first, set, es, threads, fs, request, h) = (logs es h.due.running.keeps.heap.whole).is_open

  pub has-log-room : HasSomePlanned s t store → (length (log_of s.machine t).entries ≡ most_entries → ⊥)
      → length (log_of s.machine t).entries < most_entries
  has-log-room (o, first, set, es, threads, fs, request, h) not_full =
      less (length (log_of s.machine t).entries) most_entries
      (h.due.running.keeps.asked.regions.each t h.due.thread).keeps.room not_full
    where
      less : (n m : ℕ) → n ≤ m → (n ≡ m → ⊥) → n < m
      less n m at_most other = elim (cases_lt n m) [
        | inl below ↦ below
        | inr past ↦ absurd (other (omega (arith, at_most, past)))
      ]

-- ---- the heap that a store is planned for is as the run has it

pub planned-idle : (s : Shared) (t : ℕ) (store : Store) → HasSomePlanned s t store → (log_of s.machine t).underway ≡ Idle
planned-idle s t store (o, first, set, es, threads, fs, request, h) = h.idle

pub planned-lines : (s : Shared) (t : ℕ) (store : Store) → HasSomePlanned s t store → s.lines ≡ (memory_of s.machine).size
planned-lines s t store (o, first, set, es, threads, fs, request, h) = h.due.running.lines
