-- The events of regions leave the heap whole, showing the world of the acts.
use Rattle.std.proofs.Common.{◌≡◌, ◌⊎◌, inl, inr, ℕ, ◌-◌, ◌<◌, List, [], length, refl, sym, subst}
use Rattle.ap_base.specs.declared.reference.Ref.{Ref}
use Rattle.ap_base.specs.declared.reference.Item.{Item}
use Rattle.natives.specs.declared.requests.Request.{Request}
use Rattle.natives.specs.declared.requests.Reply.{Reply}
use Rattle.run_history.specs.declared.act.Op.TheVariants as op
use Rattle.region_log.specs.declared.entry.Entry.{Entry as LogEntry}
use Rattle.region_log.specs.declared.entry.EntryStage.{EntryStage}
use Rattle.region_log.specs.declared.entry.Underway.{Underway}
use Rattle.region_log.specs.declared.entry.Underway.TheVariants.{Adding}
use Rattle.region_log.specs.Fencing.{FencesAlone}
use Rattle.region_log.specs.Log.{Log}
use Rattle.region_log.specs.Kept.{FitsUnderway}
use Rattle.region_log.specs.Made.{Word, PutsThenCalls, AreOfLog}
use Rattle.region_log.specs.Stages.{CanAdd, CanEnd, end_stage, entry_stage, words_at, words_to_end}
use Rattle.region_log.specs.Steps.{EndsOn, FailsToEnd, TouchesToEnd}
use Rattle.region_log.proofs.Fencing.{idle-fences-none, logging-fences, part-fences-none}
use Rattle.region_log.proofs.Placed.{words_of_log, end_words_of_log}
use Rattle.region_events.specs.Laws.{LogsOn, with_entry}
use Rattle.twin_forms.specs.Sights.{Twin, AllKnown}
use Rattle.twin_forms.specs.Table.{Entry}
use Rattle.machine_forms.specs.Machines.{Opening, Machine, log_of, memory_of}
use Rattle.machine_forms.specs.Keeping.{KeepsLogOf, KeepsRun}
use Rattle.machine_forms.specs.Events.{BeginsRegion, ClosesRegion, EndsPart, EndsByAct, LeavesLog, LogsWord, OnlyImage}
use Rattle.machine_forms.specs.Events.{RegionStep, emptied, at_once, begun, guarded, logged, stored, ending, closing, ended}
use Rattle.machine_forms.specs.Events.{with_log, with_logged, with_twin}
use Rattle.machine_laws.specs.HeapLaws.{KeepsShared}
use Rattle.machine_laws.proofs.Logging.{GoesOn, logging_goes_on, rests, LogGoesOn, told_goes_on, unfenced_goes_on}
use Rattle.machine_laws.proofs.HeapMoving.{shared_act, shared_logs}
use Rattle.machine_laws.proofs.Requests.{durable_place, still}

-- ---- calls of a log

module _ (o : Opening) (m : Machine) (es : List Entry) (run : KeepsRun o m es) (t : ℕ) (there : t < 64)
    (twin : Twin) (only : OnlyImage m twin) (known : AllKnown twin.memory) where
  abbrev log : Log
  log = log_of m t

  its : KeepsLogOf o m es t
  its = run.asked.regions.each t there

  by_words : (words : List Word) → AreOfLog log.thread words
      → PutsThenCalls words (memory_of m) twin.memory → GoesOn o m es twin
  by_words words own made =
      logging_goes_on o m es (run.heap, run.world) log.thread its.keeps.thread words own twin only known made

  -- an entry that is added has room
  own_words : (e : LogEntry) (stage : EntryStage) → log.underway ≡ Adding e stage
      → AreOfLog log.thread (words_at log.thread (length log.entries) e (entry_stage log.underway))
  own_words e stage is =
      words_of_log log.thread (length log.entries) e (entry_stage log.underway)
      (subst (λ (u : Underway). FitsUnderway (memory_of m).size log.depth log.entries u) is its.keeps.fits).1

  abbrev shared : KeepsShared o m es
  shared = (run.heap, run.world)

  words_go_on : (log' : Log) (e : LogEntry) → LogsOn log log' e (memory_of m) twin.memory → GoesOn o m es twin
  words_go_on log' e c =
      let own = own_words e c.adding.0 c.adding.1 in
      let words = words_at log.thread (length log.entries) e (entry_stage log.underway) in
      elim c.went [
        | inl touches ↦ by_words [] tt touches.memory
        | inr rest ↦ (elim rest [
          | inl adds ↦ by_words words own adds.memory
          | inr last ↦ (elim last [
            | inl counts ↦ by_words [] tt counts.memory
            | inr fails ↦ (elim fails.memory [
              | inl touched ↦ by_words [] tt touched
              | inr placed ↦ by_words words own placed
            ])
          ])
        ])
      ]

  -- the entry that is under way is the one that is added
  can_add : (e : LogEntry) (stage : EntryStage) → log.underway ≡ Adding e stage → CanAdd log.underway e
  can_add e stage is = subst (λ (u : Underway). CanAdd u e) (sym is) refl

  pub word_goes_on : (log' : Log) (e : LogEntry) → LogsOn log log' e (memory_of m) twin.memory
      → LogGoesOn o m es t log' twin
  word_goes_on log' e c =
      told_goes_on o m es shared t log' twin (words_go_on log' e c) only
      (logging-fences e log log' (memory_of m) twin.memory (can_add e c.adding.0 c.adding.1) c.went)

  -- a fence alone
  pub fence_goes_on : (log' : Log) → FencesAlone (memory_of m) twin.memory → LogGoesOn o m es t log' twin
  fence_goes_on log' alone = told_goes_on o m es shared t log' twin (by_words [] tt alone.memory) only (λ is. alone)

  abbrev end_words : List Word
  end_words = words_to_end log.thread (end_stage log.underway)

  own_end : AreOfLog log.thread end_words
  own_end = end_words_of_log log.thread (end_stage log.underway)

  end_words_go_on : (log' : Log) → TouchesToEnd log log' (memory_of m) twin.memory
      ⊎ (EndsOn log log' (memory_of m) twin.memory ⊎ FailsToEnd log log' (memory_of m) twin.memory)
      → GoesOn o m es twin
  end_words_go_on log' went = elim went [
    | inl touches ↦ by_words [] tt touches.memory
    | inr rest ↦ (elim rest [
      | inl ends ↦ by_words end_words own_end ends.memory
      | inr fails ↦ (elim fails.memory [
        | inl touched ↦ by_words [] tt touched
        | inr placed ↦ by_words end_words own_end placed
      ])
    ])
  ]

  pub part_goes_on : (log' : Log) → CanEnd log.underway → TouchesToEnd log log' (memory_of m) twin.memory
      ⊎ (EndsOn log log' (memory_of m) twin.memory ⊎ FailsToEnd log log' (memory_of m) twin.memory)
      → LogGoesOn o m es t log' twin
  part_goes_on log' can went =
      unfenced_goes_on o m es shared t log' twin (end_words_go_on log' went)
      (part-fences-none log log' (memory_of m) twin.memory can its.keeps went)

-- ---- events

module _ (o : Opening) (m : Machine) (es : List Entry) (run : KeepsRun o m es) where
  shared_begun : (m' : Machine) (t : ℕ) (request : Request Ref Item) (r : Reply Ref Item)
      → BeginsRegion o m m' es t request r → KeepsShared o m' es
  shared_begun m' t request r b =
      still o m m' es (run.heap, run.world) t request op.Begin r b.does b.does.heap b.queue

  pub logged_goes_on : (twin : Twin) (t : ℕ) (log' : Log) → LogsWord m twin t log'
      → LogGoesOn o m es t log' twin
  logged_goes_on twin t log' w =
      word_goes_on o m es run t w.thread twin w.only w.known log' w.entry w.logs

  pub ending_goes_on : (twin : Twin) (t : ℕ) (request : Request Ref Item) (log' : Log)
      → EndsPart o m twin t request log' → LogGoesOn o m es t log' twin
  ending_goes_on twin t request log' e =
      part_goes_on o m es run t e.calls.thread twin e.calls.only e.calls.known log' e.calls.call.can e.went

  pub closing_goes_on : (twin : Twin) (t : ℕ) (request : Request Ref Item) (log' : Log)
      → ClosesRegion o m twin t request log' → LogGoesOn o m es t log' twin
  closing_goes_on twin t request log' c =
      fence_goes_on o m es run t c.calls.thread twin c.calls.only c.calls.known log'
      (record { memory = c.fences.memory; fences = c.fences.made })

  pub left_goes_on : (twin : Twin) (t : ℕ) (request : Request Ref Item) {log' : Log}
      → LeavesLog o m twin t request log' → LogGoesOn o m es t log' twin
  left_goes_on twin t request (emptied log' e) =
      fence_goes_on o m es run t e.calls.thread twin e.calls.only e.calls.known log'
      (record { memory = e.empties.memory; fences = e.empties.made })
  left_goes_on twin t request (at_once same asks idle ends) =
      let log' = record (log_of m t) { depth = (log_of m t).depth - 1 } in
      unfenced_goes_on o m es (run.heap, run.world) t log' twin
      (subst (GoesOn o m es) (sym same) (rests o m es (run.heap, run.world)))
      (idle-fences-none (log_of m t) log' idle)

  shared_ended : (m' : Machine) (t : ℕ) (request : Request Ref Item) (r : Reply Ref Item)
      → EndsByAct o m m' es t request r → KeepsShared o m' es
  shared_ended m' t request r e =
      still o (with_logged m e.twin t e.log) m' es (left_goes_on e.twin t request e.leaves).kept t request op.End r
      e.does e.does.heap e.queue

  pub region_step : (t : ℕ) {m' : Machine} → RegionStep o t m es m' → KeepsShared o m' es
  region_step t (begun m' request r b) = shared_begun m' t request r b
  region_step t (guarded request place item e g) =
      let logs = (with_log m t (with_entry (log_of m t) e)).logs in
      shared_act o (record m { logs = logs }) es t (op.Guarded place) [] refl
      (shared_logs o m es logs (run.heap, run.world))
  region_step t (logged twin log' w) = (logged_goes_on twin t log' w).kept
  region_step t (stored m' request place item s) =
      durable_place o m m' es run t request place item s.does s.stores s.durable s.queue
  region_step t (ending twin request log' e) = (ending_goes_on twin t request log' e).kept
  region_step t (closing twin request log' c) =
      shared_act o (with_logged m twin t log') es t op.Closing [] refl
      (closing_goes_on twin t request log' c).kept
  region_step t (ended m' request r e) = shared_ended m' t request r e
