-- A call of a thread's log: what it keeps of all other logs, and how it leaves the thread's own.
use Rattle.std.proofs.Common.{◌≡◌, ◌≢◌, ◌⊎◌, inl, inr, ℕ, ◌<◌, ◌≤◌, List, [], ◌∷◌, length, refl, sym, ◌∙◌, ap, subst, arith}
use Rattle.line_memory.specs.Memory.{Memory, shown}
use Rattle.run_history.specs.Knowing.{Knowledge}
use Rattle.stop_theorem.specs.Layouts.{Layout}
use Rattle.region_log.specs.declared.entry.Entry.{Entry as LogEntry}
use Rattle.region_log.specs.declared.entry.EntryStage.{EntryStage}
use Rattle.region_log.specs.declared.entry.EndStage.{EndStage}
use Rattle.region_log.specs.declared.entry.Underway.{Underway}
use Rattle.region_log.specs.declared.entry.Underway.TheVariants.{Nothing as Idle, Adding, Ending}
use Rattle.region_log.specs.Guarding.{is_closing}
use Rattle.region_log.specs.Kept.{FitsUnderway, KeepsLog, KeepsRegion}
use Rattle.region_log.specs.Log.{Log}
use Rattle.region_log.specs.Made.{Word, PutsAll, PutsThenCalls, IsOfLog, AreOfLog}
use Rattle.region_log.specs.Stages.{next_stage, failed_stage, words_at, end_stage, failed_end, next_end, words_to_end}
use Rattle.region_log.specs.Steps.{TouchesToEnd, EndsOn, FailsToEnd}
use Rattle.region_log.proofs.Others.{not_of_log, steps-keep, steps-region}
use Rattle.region_log.proofs.Placed.{puts-size, words_of_log, end_words_of_log}
use Rattle.region_events.specs.Guards.{HasOld}
use Rattle.region_events.specs.Laws.{CallsToEnd, LogsOn}
use Rattle.region_events.proofs.Kept.{log_with, same_entry, entry_more}
use Rattle.region_events.proofs.Ending.{ending_one, touched_closing, failed_closing, next_closing, further}
use Rattle.twin_forms.specs.Sights.{AllKnown}
use Rattle.machine_laws.proofs.Logs.{StandsLog}
use Rattle.machine_laws.proofs.Memories.{KeepsWhole, all-known, logged-inside}

-- Some words of log t were stored, and then the image was called, or not.
pub record CallsLog (t : ℕ) (old new : Memory) : Type 0 where
  pub words : List Word
  pub of_log : AreOfLog t words
  pub made : PutsThenCalls words old new

-- ---- another log

shown-apart : (t : ℕ) (words : List Word) (old placed : Memory) → AreOfLog t words → PutsAll words old placed
    → (l w : ℕ) → (IsOfLog t l → ⊥) → shown placed l w ≡ shown old l w
shown-apart t [] old placed of_log is l w off = ap (λ (m : Memory). shown m l w) is
shown-apart t (word ∷ words) old placed of_log puts l w off =
    shown-apart t words puts.0 placed of_log.1 puts.2 l w off
    ∙ puts.1.others l w (λ same. absurd (off (subst (IsOfLog t) (sym same) of_log.0)))

module _ (t : ℕ) (lt : t < 64) (old new : Memory) (calls : CallsLog t old new) (known : AllKnown new)
    (same : new.size ≡ old.size) where
  -- no word outside the log shows another value
  pub shown-off : (l w : ℕ) → l < old.size → (IsOfLog t l → ⊥) → shown new l w ≡ shown old l w
  shown-off l w inside off =
      let made = calls.made in
      let size = puts-size calls.words old made.placed made.puts in
      made.calls.shows l w (all-known made.placed l (omega (arith, inside, size)))
      (known l (omega (arith, inside, same)))
      ∙ shown-apart t calls.words old made.placed calls.of_log made.puts l w off

  pub old-shown : (size depth : ℕ) (entries : List LogEntry) (underway : Underway) → old.size ≡ size
      → 33 ≤ size → FitsUnderway size depth entries underway → HasOld underway old → HasOld underway new
  old-shown size depth entries Idle is long fits has = tt
  old-shown size depth entries (Adding e stage) is long fits has =
      let inside = logged-inside size e.spot.line fits.0.place long in
      has ∙ sym (shown-off e.spot.line e.spot.word (omega (arith, inside, is))
      (not_of_log size e.spot.line t fits.0.place lt))
  old-shown size depth entries (Ending stage) is long fits has = tt

  pub other-whole : (log : Log) → log.thread ≢ t → KeepsWhole log old → KeepsWhole log new
  other-whole log other is = record {
    keeps = steps-keep log t calls.words old new other calls.of_log calls.made is.keeps;
    region = steps-region log t calls.words old new lt calls.of_log calls.made is.keeps is.region;
    old = (let long = is.keeps.size in
        old-shown old.size log.depth log.entries log.underway refl (omega (arith, long)) is.keeps.fits
        is.old);
  }

-- ---- a word is logged

no-words : (t : ℕ) (old new : Memory) → PutsThenCalls [] old new → CallsLog t old new
no-words t old new made = record { words = []; of_log = tt; made = made }

module _ (t depth : ℕ) (entries : List LogEntry) (e : LogEntry) (stage : EntryStage) (old new : Memory)
    (log' : Log) (on : LogsOn (log_with t depth entries (Adding e stage)) log' e old new) where
  of-stage : KeepsLog (log_with t depth entries (Adding e stage)) old
      → PutsThenCalls (words_at t (length entries) e stage) old new → CallsLog t old new
  of-stage keeps made = record {
    words = words_at t (length entries) e stage;
    of_log = words_of_log t (length entries) e stage keeps.fits.1;
    made = made;
  }

  pub logging-calls : KeepsLog (log_with t depth entries (Adding e stage)) old → CallsLog t old new
  logging-calls keeps = elim on.went [
    | inl made ↦ no-words t old new made.memory
    | inr (inl made) ↦ of-stage keeps made.memory
    | inr (inr (inl made)) ↦ no-words t old new made.memory
    | inr (inr (inr made)) ↦ elim made.memory [
      | inl touch ↦ no-words t old new touch
      | inr all ↦ of-stage keeps all
    ]
  ]

  module _ (known : Knowledge) (lay : Layout)
      (s : StandsLog known lay old (log_with t depth entries (Adding e stage)) t)
      (still : shown new e.spot.line e.spot.word ≡ shown old e.spot.line e.spot.word) where
    -- the entry is at some stage then
    at-stage : (next : EntryStage) → log' ≡ log_with t depth entries (Adding e next)
        → StandsLog known lay new log' t
    at-stage next is =
        subst (λ (l : Log). KeepsLog l new → StandsLog known lay new l t) (sym is) (λ kept. record {
          thread = refl;
          guards = same_entry known lay t depth entries e stage next s.guards;
          whole = record { keeps = kept; region = tt; old = s.whole.old ∙ sym still };
        }) on.steps.keeps

    pub logging-stands : StandsLog known lay new log' t
    logging-stands = elim on.went [
      | inl made ↦ at-stage stage made.log
      | inr (inl made) ↦ at-stage (next_stage stage) made.log
      | inr (inr (inl made)) ↦
          subst (λ (l : Log). KeepsLog l new → StandsLog known lay new l t) (sym made.log) (λ kept. record {
            thread = refl;
            guards = entry_more known lay t depth entries e stage s.guards;
            whole = record { keeps = kept; region = tt; old = tt };
          }) on.steps.keeps
      | inr (inr (inr made)) ↦ at-stage (failed_stage stage) made.log
    ]

-- ---- a region is being ended

module _ (t depth : ℕ) (entries : List LogEntry) (underway : Underway) (old new : Memory) (log' : Log)
    (c : CallsToEnd (log_with t depth entries underway) log' old new) (known : Knowledge) (lay : Layout)
    (s : StandsLog known lay old (log_with t depth entries underway) t) where
  -- the end is at some stage then
  pub at-end : (next : EndStage) → log' ≡ log_with t depth entries (Ending next)
      → is_closing (Ending next) ≡ is_closing underway → StandsLog known lay new log' t
  at-end next is closing =
      subst (λ (l : Log). KeepsLog l new → KeepsRegion l new → StandsLog known lay new l t) (sym is)
      (λ kept region. record {
        thread = refl;
        guards = (let one = (ending_one new.size depth entries next kept.fits).0 in
            further known lay t depth entries underway next c.can closing
            (λ none. absurd (omega (arith, one, none))) s.guards);
        whole = record { keeps = kept; region = region; old = tt };
      }) c.steps.keeps (c.region s.whole.region)

  pub ending-stands : TouchesToEnd (log_with t depth entries underway) log' old new
      ⊎ (EndsOn (log_with t depth entries underway) log' old new
      ⊎ FailsToEnd (log_with t depth entries underway) log' old new)
      → StandsLog known lay new log' t
  ending-stands (inl made) = at-end (end_stage underway) made.log (touched_closing underway c.can)
  ending-stands (inr (inl made)) = at-end (next_end (length entries) (end_stage underway)) made.log
      (next_closing old.size depth entries underway c.can s.whole.keeps.fits made.no_fence made.not_last)
  ending-stands (inr (inr made)) = at-end (failed_end (end_stage underway)) made.log
      (failed_closing underway c.can)

pub ending-calls : (log log' : Log) (old new : Memory)
    → TouchesToEnd log log' old new ⊎ (EndsOn log log' old new ⊎ FailsToEnd log log' old new)
    → CallsLog log.thread old new
ending-calls log log' old new went = elim went [
  | inl made ↦ no-words log.thread old new made.memory
  | inr (inl made) ↦ all made.memory
  | inr (inr made) ↦ elim made.memory [
    | inl touch ↦ no-words log.thread old new touch
    | inr words ↦ all words
  ]
]
  where
    all : PutsThenCalls (words_to_end log.thread (end_stage log.underway)) old new
        → CallsLog log.thread old new
    all made = record {
      words = words_to_end log.thread (end_stage log.underway);
      of_log = end_words_of_log log.thread (end_stage log.underway);
      made = made;
    }

pub fence-calls : (t : ℕ) (old new : Memory) → PutsThenCalls [] old new → CallsLog t old new
fence-calls t old new made = no-words t old new made
