-- A region logs a word, or is being ended, by a call of the image and no act: what was asked is kept.
use Rattle.std.proofs.Common.{◌≡◌, ◌≢◌, ◌⊎◌, inr, ℕ, ◌<◌, ◌≤◌, List, refl, sym, ◌∙◌, subst, arith}
use Rattle.line_memory.specs.Memory.{Memory, OneCall}
use Rattle.ap_base.specs.declared.reference.Ref.{Ref}
use Rattle.ap_base.specs.declared.reference.Item.{Item}
use Rattle.natives.specs.declared.requests.Request.{Request}
use Rattle.region_log.specs.declared.entry.Entry.{Entry as LogEntry}
use Rattle.region_log.specs.declared.entry.EntryStage.{EntryStage}
use Rattle.region_log.specs.declared.entry.Underway.{Underway}
use Rattle.region_log.specs.declared.entry.Underway.TheVariants.{Adding}
use Rattle.region_log.specs.Log.{Log}
use Rattle.region_log.specs.Steps.{TouchesToEnd, EndsOn, FailsToEnd}
use Rattle.region_log.proofs.Others.{not_of_log}
use Rattle.region_events.specs.Laws.{CallsToEnd, LogsOn}
use Rattle.region_events.proofs.Kept.{log_with}
use Rattle.twin_forms.specs.Table.{Entry}
use Rattle.twin_forms.specs.Sights.{Twin, AllKnown}
use Rattle.machine_forms.specs.Machines.{Opening, Machine, known_in, memory_of, log_of, layout_in}
use Rattle.machine_forms.specs.Keeping.{KeepsAsked, KeepsRun}
use Rattle.machine_forms.specs.Events.{EndsPart, LogsWord, with_logged}
use Rattle.machine_laws.proofs.Quiet.{quiet-keeps}
use Rattle.machine_laws.proofs.AskKeeping.{few-calls, first-kept, is-queues}
use Rattle.machine_laws.proofs.LogCalls.{CallsLog, shown-off, other-whole, logging-calls, logging-stands, ending-calls}
use Rattle.machine_laws.proofs.LogCalls.{ending-stands}
use Rattle.machine_laws.proofs.Logs.{StandsLog, regions-own}
use Rattle.machine_laws.proofs.Memories.{KeepsWhole, logged-inside}
use Rattle.machine_laws.proofs.RegionActs.{now-stands}
use Rattle.machine_laws.proofs.AskRegions.{quiet-spares}

module _ (o : Opening) (m : Machine) (es : List Entry) (k : KeepsRun o m es) (twin : Twin) (t : ℕ)
    (lt : t < 64) where
  -- the logs of all other threads
  pub others-whole : CallsLog t (memory_of m) twin.memory → AllKnown twin.memory
      → twin.memory.size ≡ (memory_of m).size → (u : ℕ) → u < 64 → u ≢ t
      → KeepsWhole (log_of m u) twin.memory
  others-whole calls known same u below other =
      let log = now-stands o m es k u below in
      other-whole t lt (memory_of m) twin.memory calls known same (log_of m u)
      (λ e. other (sym log.thread ∙ e)) log.whole

  -- the thread's log is another one after the call
  pub called-keeps : (log' : Log) → OneCall (memory_of m) twin.memory
      → (memory_of m).calls ≤ twin.memory.calls
      → ((u : ℕ) → u < 64 → u ≢ t → KeepsWhole (log_of m u) twin.memory)
      → StandsLog (known_in o m) (layout_in o es) twin.memory log' t
      → KeepsAsked o (with_logged m twin t log') es
  called-keeps log' one later others own =
      quiet-keeps o m (with_logged m twin t log') es es k (record {
        acts = refl;
        about = refl;
        durable = λ n. (λ p. p, λ p. p);
        lines = λ n p. refl;
        queued = λ u i n is. first-kept (known_in o m) (known_in o m) m (with_logged m twin t log') es es u
            refl (λ x h. is-queues m.queue (with_logged m twin t log').queue es u 0 x refl h)
            (k.asked.queued u i n (is-queues (with_logged m twin t log').queue m.queue es u i n refl is));
        wanted = k.asked.wanted;
        later = later;
        few = few-calls (memory_of m) twin.memory (inr one) k.asked.few;
        regions = regions-own o m es k es (with_logged m twin t log') (known_in o m) refl t log' lt refl
            (λ u other. quiet-spares (known_in o m) (layout_in o es) (layout_in o es) u (λ n is. refl))
            k.asked.regions.apart others own;
      })

-- ---- a word is logged

-- What the call does to other logs and to its own.
pub record Went (o : Opening) (m : Machine) (es : List Entry) (t : ℕ) (new : Memory) (log' : Log) : Type 0
  where
    pub calls : CallsLog t (memory_of m) new
    pub own : StandsLog (known_in o m) (layout_in o es) new log' t

module _ (o : Opening) (m : Machine) (es : List Entry) (k : KeepsRun o m es) (twin : Twin) (t : ℕ)
    (log' : Log) (l : LogsWord m twin t log') where
  went-with : (e : LogEntry) (depth : ℕ) (entries : List LogEntry) (u : Underway)
      → StandsLog (known_in o m) (layout_in o es) (memory_of m) (log_with t depth entries u) t
      → LogsOn (log_with t depth entries u) log' e (memory_of m) twin.memory
      → (stage : EntryStage) × (u ≡ Adding e stage) → Went o m es t twin.memory log'
  went-with e depth entries u s on adding =
      let At : Underway → Type 0 = λ (v : Underway).
      StandsLog (known_in o m) (layout_in o es) (memory_of m) (log_with t depth entries v) t
      → LogsOn (log_with t depth entries v) log' e (memory_of m) twin.memory
      → Went o m es t twin.memory log' in
      let there : At (Adding e adding.0) = λ stands logs.
      (let calls = logging-calls t depth entries e adding.0 (memory_of m) twin.memory log' logs
      stands.whole.keeps in
      let may = stands.whole.keeps.fits.0.place in
      let long = stands.whole.keeps.size in
      record {
        calls = calls;
        own = logging-stands t depth entries e adding.0 (memory_of m) twin.memory log' logs (known_in o m)
            (layout_in o es) stands (shown-off t l.thread (memory_of m) twin.memory calls l.known
            logs.steps.size e.spot.line e.spot.word
            (logged-inside (memory_of m).size e.spot.line may (omega (arith, long)))
            (not_of_log (memory_of m).size e.spot.line t may l.thread));
      }) in
      subst At (sym adding.1) there s on

  went : Went o m es t twin.memory log'
  went =
      let s = now-stands o m es k t l.thread in
      let log = log_of m t in
      let At : ℕ → Type 0 = λ (v : ℕ).
      StandsLog (known_in o m) (layout_in o es) (memory_of m)
      (log_with v log.depth log.entries log.underway) t
      → LogsOn (log_with v log.depth log.entries log.underway) log' l.entry (memory_of m) twin.memory
      → Went o m es t twin.memory log' in
      let there : At t = λ stands on.
      went-with l.entry log.depth log.entries log.underway stands on on.adding in
      let own : At log.thread = subst At (sym s.thread) there in
      own s l.logs

  pub word-keeps : KeepsAsked o (with_logged m twin t log') es
  word-keeps =
      let w = went in
      called-keeps o m es k twin t l.thread log' l.logs.call l.logs.later
      (others-whole o m es k twin t l.thread w.calls l.known l.logs.steps.size) w.own

-- ---- a part of an end

module _ (o : Opening) (m : Machine) (es : List Entry) (k : KeepsRun o m es) (twin : Twin) (t : ℕ)
    (request : Request Ref Item) (log' : Log) (part : EndsPart o m twin t request log') where
  own-ending : StandsLog (known_in o m) (layout_in o es) twin.memory log' t
  own-ending =
      let s = now-stands o m es k t part.calls.thread in
      let log = log_of m t in
      let At : ℕ → Type 0 = λ (v : ℕ).
      StandsLog (known_in o m) (layout_in o es) (memory_of m)
      (log_with v log.depth log.entries log.underway) t
      → CallsToEnd (log_with v log.depth log.entries log.underway) log' (memory_of m) twin.memory
      → TouchesToEnd (log_with v log.depth log.entries log.underway) log' (memory_of m) twin.memory
      ⊎ (EndsOn (log_with v log.depth log.entries log.underway) log' (memory_of m) twin.memory
      ⊎ FailsToEnd (log_with v log.depth log.entries log.underway) log' (memory_of m) twin.memory)
      → StandsLog (known_in o m) (layout_in o es) twin.memory log' t in
      let there : At t = λ stands c went. ending-stands t log.depth log.entries log.underway (memory_of m)
      twin.memory log' c (known_in o m) (layout_in o es) stands went in
      let own : At log.thread = subst At (sym s.thread) there in
      own s part.calls.call part.went

  pub part-keeps : KeepsAsked o (with_logged m twin t log') es
  part-keeps =
      let s = now-stands o m es k t part.calls.thread in
      called-keeps o m es k twin t part.calls.thread log' part.calls.call.call part.calls.call.later
      (others-whole o m es k twin t part.calls.thread
      (subst (λ u. CallsLog u (memory_of m) twin.memory) s.thread
      (ending-calls (log_of m t) log' (memory_of m) twin.memory part.went)) part.calls.known
      part.calls.call.steps.size) own-ending
