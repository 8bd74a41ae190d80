-- A word is logged, a call at a time.
use Rattle.std.proofs.Common.{◌≡◌, inl, inr, ℕ, ◌+◌, ◌≤◌, List, [], ◌∷◌, ◌++◌, length, sym, ◌∙◌, subst}
use Rattle.image_layout.specs.Places.{log_head_line}
use Rattle.line_memory.specs.Memory.{Memory, shown, OneCall}
use Rattle.run_history.specs.Knowing.{Knowledge}
use Rattle.stop_theorem.specs.Running.{State, known_at, with_memory, Events, none}
use Rattle.region_log.specs.declared.entry.Entry.{Entry}
use Rattle.region_log.specs.declared.entry.EntryStage.{EntryStage}
use Rattle.region_log.specs.declared.entry.EntryStage.TheVariants.{Begun, Written, Fenced, Counting, Counted}
use Rattle.region_log.specs.declared.entry.Underway.{Underway}
use Rattle.region_log.specs.declared.entry.Underway.TheVariants.{Nothing, Adding}
use Rattle.region_log.specs.Kept.{Counts, IsCounting, KeepsLog}
use Rattle.region_log.specs.Log.{Log, logged_of}
use Rattle.region_log.specs.Made.{Word, PutsAll, PutsThenCalls, AreOfLog}
use Rattle.region_log.specs.Stages.{next_stage, failed_stage, words_at}
use Rattle.region_log.specs.Steps.{TouchesFor, AddsOn, AddsEntry, FailsToAdd}
use Rattle.region_log.proofs.Others.{not_of_log}
use Rattle.region_log.proofs.Placed.{words_of_log}
use Rattle.region_events.specs.Guards.{StandsWith}
use Rattle.region_events.specs.Laws.{GoesWith, LogsOn, LoggingIsEvents}
use Rattle.region_events.proofs.Calls.{one_event, quiet_event, calls_behind, only_calls, shown_elsewhere}
use Rattle.region_events.proofs.Going.{standing_of, goes}
use Rattle.region_events.proofs.Kept.{log_with, same_entry, entry_more}
use Rattle.region_events.proofs.Words.{entry_stored, count_raised}

module _ (first : Knowledge) (s : State) (t depth : ℕ) (entries : List Entry) (e : Entry) where
  abbrev at : EntryStage → Log
  at stage = log_with t depth entries (Adding e stage)

  -- a log whose count wasn't raised yet
  not_raised : IsCounting s.memory t entries e → Counts s.memory t (length entries)
      → KeepsLog (at Counting) s.memory → KeepsLog (at Fenced) s.memory
  not_raised is only keeps = record {
    thread = keeps.thread;
    size = keeps.size;
    room = keeps.room;
    places = keeps.places;
    once = keeps.once;
    fits = keeps.fits;
    words = λ tells. (record { count = only; each = is.each }, is.entry);
  }

  -- the words of a stage
  words_stored : (stage : EntryStage) → StandsWith first (at stage) s → (placed : Memory)
      → PutsAll (words_at t (length entries) e stage) s.memory placed → Events first s (with_memory s placed)
  words_stored Begun w placed puts =
      entry_stored first s (standing_of first (at Begun) s w) t (length entries) (logged_of e) w.keeps.thread
      w.keeps.fits.1 w.keeps.size (w.keeps.words w.telling).count placed puts
  words_stored Written w placed puts = subst (λ m. Events first s (with_memory s m)) (sym puts) (none s)
  words_stored Fenced w placed puts =
      subst (λ m. Events first s (with_memory s m)) (sym puts.2)
      (one_event first s (with_memory s puts.0)
      (count_raised first s (standing_of first (at Fenced) s w) t depth entries e w.keeps w.old w.guards
      puts.0 puts.1))
  words_stored Counting w placed puts =
      let is : IsCounting s.memory t entries e = w.keeps.words w.telling in
      subst (λ m. Events first s (with_memory s m)) (sym puts.2)
      (one_event first s (with_memory s puts.0) (elim is.raised [
        | inl shows ↦ quiet_event first s
            (record { line = log_head_line t; word = 0; value = length entries + 1 }) puts.0 puts.1 shows
        | inr only ↦ count_raised first s (standing_of first (at Counting) s w) t depth entries e
            (not_raised is only w.keeps) w.old
            (same_entry (known_at first s) s.layout t depth entries e Counting Fenced w.guards) puts.0 puts.1
      ]))
  words_stored Counted w placed puts = subst (λ m. Events first s (with_memory s m)) (sym puts) (none s)

  module _ (stage : EntryStage) (w : StandsWith first (at stage) s) (new : Memory)
      (one : OneCall s.memory new) (later : s.memory.calls ≤ new.calls) where
    no_words : PutsThenCalls [] s.memory new → Events first s (with_memory s new)
    no_words made = only_calls first s new made one later

    all_words : PutsThenCalls (words_at t (length entries) e stage) s.memory new
        → Events first s (with_memory s new)
    all_words made =
        calls_behind first s (words_at t (length entries) e stage) made.placed new made.puts
        (words_stored stage w made.placed made.puts) made.calls one later

    -- the entry's word shows as before
    old_stays : (words : List Word) → AreOfLog t words → PutsThenCalls words s.memory new
        → e.old ≡ shown new e.spot.line e.spot.word
    old_stays words of_log made =
        w.old ∙ sym (shown_elsewhere t words s.memory new of_log made w.telling e.spot.line e.spot.word
        (not_of_log s.memory.size e.spot.line t w.keeps.fits.0.place w.keeps.thread))

    -- the entry is at some stage then
    on : (next : EntryStage) (log' : Log) → log' ≡ at next → Events first s (with_memory s new)
        → KeepsLog log' new → e.old ≡ shown new e.spot.line e.spot.word
        → GoesWith first log' s (with_memory s new)
    on next log' is events keeps old =
        subst (λ (l : Log). KeepsLog l new → GoesWith first l s (with_memory s new)) (sym is)
        (λ kept. goes first (at next) s (with_memory s new) (standing_of first (at stage) s w) events
        (same_entry (known_at first s) s.layout t depth entries e stage next w.guards) kept tt old) keeps

    of_stage : AreOfLog t (words_at t (length entries) e stage)
    of_stage = words_of_log t (length entries) e stage w.keeps.fits.1

    touched : (log' : Log) → TouchesFor e (at stage) log' s.memory new → KeepsLog log' new
        → GoesWith first log' s (with_memory s new)
    touched log' made keeps =
        on stage log' made.log (no_words made.memory) keeps (old_stays [] tt made.memory)

    added : (log' : Log) → AddsOn e (at stage) log' s.memory new → KeepsLog log' new
        → GoesWith first log' s (with_memory s new)
    added log' made keeps =
        on (next_stage stage) log' made.log (all_words made.memory) keeps
        (old_stays (words_at t (length entries) e stage) of_stage made.memory)

    failed : (log' : Log) → FailsToAdd e (at stage) log' s.memory new → KeepsLog log' new
        → GoesWith first log' s (with_memory s new)
    failed log' made keeps = elim made.memory [
      | inl touch ↦ on (failed_stage stage) log' made.log (no_words touch) keeps (old_stays [] tt touch)
      | inr all ↦ on (failed_stage stage) log' made.log (all_words all) keeps
          (old_stays (words_at t (length entries) e stage) of_stage all)
    ]

    logged : (log' : Log) → AddsEntry e (at stage) log' s.memory new → KeepsLog log' new
        → GoesWith first log' s (with_memory s new)
    logged log' made keeps =
        subst (λ (l : Log). KeepsLog l new → GoesWith first l s (with_memory s new)) (sym made.log)
        (λ kept. goes first (log_with t depth (entries ++ e ∷ []) Nothing) s (with_memory s new)
        (standing_of first (at stage) s w) (no_words made.memory)
        (entry_more (known_at first s) s.layout t depth entries e stage w.guards) kept tt tt) keeps

  pub logs_on : (stage : EntryStage) → StandsWith first (at stage) s → (log' : Log) (new : Memory)
      → LogsOn (at stage) log' e s.memory new → GoesWith first log' s (with_memory s new)
  logs_on stage w log' new l = elim l.went [
    | inl made ↦ touched stage w new l.call l.later log' made l.steps.keeps
    | inr (inl made) ↦ added stage w new l.call l.later log' made l.steps.keeps
    | inr (inr (inl made)) ↦ logged stage w new l.call l.later log' made l.steps.keeps
    | inr (inr (inr made)) ↦ failed stage w new l.call l.later log' made l.steps.keeps
  ]

pub logging_is_events : LoggingIsEvents
logging_is_events first log s w log' e new l =
    let stage : EntryStage = l.adding.0 in
    let At : Underway → Type 0 = λ (u : Underway). StandsWith first (record log { underway = u }) s
    → LogsOn (record log { underway = u }) log' e s.memory new
    → GoesWith first log' s (with_memory s new) in
    let there : At (Adding e stage) = λ stands on.
    logs_on first s log.thread log.depth log.entries e stage stands log' new on in
    subst At (sym l.adding.1) there w l
