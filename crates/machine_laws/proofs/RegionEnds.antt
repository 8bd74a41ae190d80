-- A region becomes closing, and ends, by an act: what was asked is kept.
use Rattle.std.proofs.Common.{◌≡◌, ◌≢◌, inl, inr, ℕ, ◌-◌, ◌<◌, ◌^◌, false, List, [], length, refl, sym, ◌∙◌, ap, subst, arith}
use Rattle.std.proofs.Common.{ne_eqb}
use Rattle.std.proofs.lemmas.Bool.{cases_lt}
use Rattle.ap_base.specs.declared.reference.Ref.{Ref}
use Rattle.ap_base.specs.declared.reference.Item.{Item}
use Rattle.natives.specs.declared.requests.Request.{Request}
use Rattle.natives.specs.declared.requests.Reply.{Reply}
use Rattle.line_memory.specs.Memory.{Memory}
use Rattle.run_history.specs.declared.act.Op.TheVariants as op
use Rattle.run_history.specs.Recorded.{Recorded}
use Rattle.run_history.specs.Worlds.{depth_of}
use Rattle.run_history.specs.Knowing.{Knowledge, is_outermost}
use Rattle.stop_theorem.specs.Layouts.{Layout}
use Rattle.stop_theorem.specs.InvariantEvents.{known_by}
use Rattle.region_log.specs.declared.entry.Entry.{Entry as LogEntry}
use Rattle.region_log.specs.declared.entry.EndStage.TheVariants.{Writing, AllFenced, Cleared}
use Rattle.region_log.specs.declared.entry.Underway.{Underway}
use Rattle.region_log.specs.declared.entry.Underway.TheVariants.{Nothing as Idle, Ending}
use Rattle.region_log.specs.Kept.{KeepsLog, KeepsRegion}
use Rattle.region_log.specs.Log.{Log}
use Rattle.region_log.specs.Stages.{EndsAtOnce}
use Rattle.region_log.specs.Steps.{FencesRegion, EndsLog}
use Rattle.region_events.specs.Guards.{KeepsGuards}
use Rattle.region_events.specs.Laws.{CallsToEnd}
use Rattle.region_events.proofs.Acts.{closing_keeps, end_keeps, inner_end_keeps}
use Rattle.region_events.proofs.Kept.{log_with}
use Rattle.region_events.proofs.Ending.{ending_one, further}
use Rattle.region_events.proofs.Rules.{writing_open}
use Rattle.twin_forms.specs.Table.{Entry}
use Rattle.twin_forms.specs.Sights.{Twin}
use Rattle.two_spaces.specs.Seen.{Spaces}
use Rattle.convert_queue.specs.Queues.{Queues}
use Rattle.machine_forms.specs.Machines.{Opening, Machine, known_in, memory_of, log_of, layout_in}
use Rattle.machine_forms.specs.Keeping.{KeepsAsked, KeepsRun}
use Rattle.machine_forms.specs.Events.{ClosesRegion, EndsByAct, LeavesLog, act_in, emptied, at_once, with_closing, with_logged}
use Rattle.machine_laws.proofs.Changes.{whole-same}
use Rattle.machine_laws.proofs.AskKeeping.{few-calls}
use Rattle.machine_laws.proofs.LogCalls.{fence-calls}
use Rattle.machine_laws.proofs.Logs.{StandsLog}
use Rattle.machine_laws.proofs.Memories.{KeepsWhole}
use Rattle.machine_laws.proofs.RegionActs.{now-stands, acted-regions, region-acted, deep-whole}
use Rattle.machine_laws.proofs.RegionCalls.{others-whole}

-- ---- a region becomes closing

fenced-stands : (known : Knowledge) (lay : Layout) (t depth at : ℕ) (entries : List LogEntry)
    (underway : Underway) (old new : Memory) (log' : Log)
    → StandsLog known lay old (log_with t depth entries underway) t
    → CallsToEnd (log_with t depth entries underway) log' old new
    → FencesRegion (log_with t depth entries underway) log' old new
    → StandsLog (known_by known t at op.Closing []) lay new log' t
fenced-stands known lay t depth at entries underway old new log' s c made =
    subst (λ (l : Log). KeepsLog l new → KeepsRegion l new
    → StandsLog (known_by known t at op.Closing []) lay new l t) (sym made.log)
    (λ kept region. record {
      thread = refl;
      guards = (let one = (ending_one new.size depth entries AllFenced kept.fits).0 in
          closing_keeps known lay t depth at 0 entries
          (further known lay t depth entries underway (Writing 0) c.can
          (sym (writing_open underway (length entries) made.next)) (λ none. absurd (omega (arith, one, none)))
          s.guards));
      whole = record { keeps = kept; region = region; old = tt };
    }) c.steps.keeps (c.region s.whole.region)

module _ (o : Opening) (m : Machine) (es : List Entry) (k : KeepsRun o m es) (twin : Twin) (t : ℕ)
    (request : Request Ref Item) (log' : Log) (closes : ClosesRegion o m twin t request log') where
  abbrev close : Recorded
  close = act_in (with_logged m twin t log') t op.Closing []

  own-closing : StandsLog (known_by (known_in o m) t twin.memory.calls op.Closing []) (layout_in o es)
      twin.memory log' t
  own-closing =
      let s = now-stands o m es k t closes.calls.thread in
      let log = log_of m t in
      let At : ℕ → Type 0 = λ (v : ℕ).
      StandsLog (known_in o m) (layout_in o es) (memory_of m)
      (log_with v log.depth log.entries log.underway) t
      → CallsToEnd (log_with v log.depth log.entries log.underway) log' (memory_of m) twin.memory
      → FencesRegion (log_with v log.depth log.entries log.underway) log' (memory_of m) twin.memory
      → StandsLog (known_by (known_in o m) t twin.memory.calls op.Closing []) (layout_in o es) twin.memory
      log' t in
      let there : At t = fenced-stands (known_in o m) (layout_in o es) t log.depth twin.memory.calls
      log.entries log.underway (memory_of m) twin.memory log' in
      let own : At log.thread = subst At (sym s.thread) there in
      own s closes.calls.call closes.fences

  pub closing-keeps : KeepsAsked o (with_closing m twin t log') es
  closing-keeps =
      region-acted o m es k (with_closing m twin t log') close refl
      (acted-regions o m es k (with_closing m twin t log') close refl log' closes.calls.thread tt refl
      (others-whole o m es k twin t closes.calls.thread
      (fence-calls t (memory_of m) twin.memory closes.fences.memory) closes.calls.known
      closes.calls.call.steps.size) own-closing) tt refl refl refl refl (omega arith)
      (few-calls (memory_of m) twin.memory (inr closes.calls.call.call) k.asked.few)

-- ---- a region ends

module _ (known : Knowledge) (lay : Layout) (t at : ℕ) (old : Memory) where
  abbrev Ended : Memory → Log → Type 0
  Ended new log = StandsLog (known_by known t at op.End []) lay new log t

  -- by its last call
  emptied-stands : (depth : ℕ) (entries : List LogEntry) (underway : Underway) (new : Memory) (log' : Log)
      → StandsLog known lay old (log_with t depth entries underway) t
      → CallsToEnd (log_with t depth entries underway) log' old new
      → EndsLog (log_with t depth entries underway) log' old new → Ended new log'
  emptied-stands depth entries underway new log' s c made =
      let At : Underway → Type 0 = λ (u : Underway). StandsLog known lay old (log_with t depth entries u) t
      → depth ≡ 1 in
      let there : At (Ending Cleared) = λ stands. stands.whole.keeps.fits.0 in
      let one : depth ≡ 1 = subst At (sym made.last) there s in
      subst (λ (l : Log). KeepsLog l new → Ended new l) (sym made.log) (λ kept. record {
        thread = refl;
        guards = end_keeps known lay t at (sym s.guards.depth ∙ one);
        whole = record { keeps = kept; region = tt; old = tt };
      }) c.steps.keeps

  -- one within another
  within-stands : (log : Log) → log.thread ≡ t → log.underway ≡ Idle → 1 < log.depth
      → StandsLog known lay old log t → Ended old (record log { depth = log.depth - 1 })
  within-stands log thread idle within s =
      let depth = s.guards.depth in
      let inner : is_outermost known log.thread ≡ false = ne_eqb (depth_of known.world log.thread) 1
      (λ one. absurd (omega (arith, one, depth, within))) in record {
        thread = thread;
        guards = subst (λ u. KeepsGuards (known_by known u at op.End []) lay
            (record log { depth = log.depth - 1 })) thread
            (inner_end_keeps known lay log at within inner s.guards);
        whole = deep-whole log old (log.depth - 1) idle s.whole;
      }

  -- one that logged nothing
  empty-stands : StandsLog known lay old (log_with t 1 [] Idle) t → Ended old (log_with t 0 [] Idle)
  empty-stands s = record {
    thread = refl;
    guards = end_keeps known lay t at (sym s.guards.depth);
    whole = deep-whole (log_with t 1 [] Idle) old 0 refl s.whole;
  }

  none-stands : (log : Log) → log.thread ≡ t → log.underway ≡ Idle → log.entries ≡ [] → log.depth ≡ 1
      → StandsLog known lay old log t → Ended old (record log { depth = log.depth - 1 })
  none-stands log thread idle none one s =
      let At : ℕ → ℕ → List LogEntry → Underway → Type 0 = λ (v d : ℕ) (xs : List LogEntry) (u : Underway).
      StandsLog known lay old (log_with v d xs u) t → Ended old (log_with v (d - 1) xs u) in
      let there : At t 1 [] Idle = empty-stands in
      let a : At t 1 [] log.underway = subst (At t 1 []) (sym idle) there in
      let b : At t 1 log.entries log.underway = subst (λ xs. At t 1 xs log.underway) (sym none) a in
      let c : At t log.depth log.entries log.underway = subst (λ d. At t d log.entries log.underway)
      (sym one) b in
      subst (λ v. At v log.depth log.entries log.underway) (sym thread) c s

  once-stands : (log : Log) → log.underway ≡ Idle → 0 < log.depth → EndsAtOnce log
      → StandsLog known lay old log t → Ended old (record log { depth = log.depth - 1 })
  once-stands log idle some (inl within) s = within-stands log s.thread idle within s
  once-stands log idle some (inr none) s = elim (cases_lt 1 log.depth) [
    | inl within ↦ within-stands log s.thread idle within s
    | inr shallow ↦ none-stands log s.thread idle none (omega (arith, some, shallow)) s
  ]

module _ (o : Opening) (m : Machine) (es : List Entry) (k : KeepsRun o m es) (twin : Twin) (t : ℕ)
    (lt : t < 64) (request : Request Ref Item) where
  -- how an End leaves the logs
  pub record Left (log' : Log) : Type 0 where
    pub own : StandsLog (known_by (known_in o m) t twin.memory.calls op.End []) (layout_in o es) twin.memory
        log' t
    pub others : (u : ℕ) → u < 64 → u ≢ t → KeepsWhole (log_of m u) twin.memory
    pub few : twin.memory.calls < 2 ^ 64

  pub left-by : (log' : Log) → LeavesLog o m twin t request log' → Left log'
  left-by _ (emptied log' e) =
      let s = now-stands o m es k t lt in
      let log = log_of m t in
      let At : ℕ → Type 0 = λ (v : ℕ).
      StandsLog (known_in o m) (layout_in o es) (memory_of m)
      (log_with v log.depth log.entries log.underway) t
      → CallsToEnd (log_with v log.depth log.entries log.underway) log' (memory_of m) twin.memory
      → EndsLog (log_with v log.depth log.entries log.underway) log' (memory_of m) twin.memory
      → Ended (known_in o m) (layout_in o es) t twin.memory.calls (memory_of m) twin.memory log' in
      let there : At t = emptied-stands (known_in o m) (layout_in o es) t twin.memory.calls (memory_of m)
      log.depth log.entries log.underway twin.memory log' in
      let own : At log.thread = subst At (sym s.thread) there in record {
        own = own s e.calls.call e.empties;
        others = others-whole o m es k twin t lt (fence-calls t (memory_of m) twin.memory e.empties.memory)
            e.calls.known e.calls.call.steps.size;
        few = few-calls (memory_of m) twin.memory (inr e.calls.call.call) k.asked.few;
      }
  left-by _ (at_once same asks idle ends) =
      let memory : memory_of m ≡ twin.memory = ap (λ (x : Twin). x.memory) (sym same) in
      let log = log_of m t in record {
        own = subst (λ (new : Memory). StandsLog (known_by (known_in o m) t twin.memory.calls op.End [])
            (layout_in o es) new (record log { depth = log.depth - 1 }) t) memory
            (once-stands (known_in o m) (layout_in o es) t twin.memory.calls (memory_of m) log idle
            asks.is_open ends (now-stands o m es k t lt));
        others = λ u below other. whole-same o m es k twin.memory u below (sym memory);
        few = subst (λ (new : Memory). new.calls < 2 ^ 64) memory k.asked.few;
      }

module _ (o : Opening) (m : Machine) (es : List Entry) (k : KeepsRun o m es) (m' : Machine) (t : ℕ)
    (request : Request Ref Item) (r : Reply Ref Item) (ends : EndsByAct o m m' es t request r) where
  abbrev end : Recorded
  end = act_in (with_logged m ends.twin t ends.log) t op.End []

  ended-memory : memory_of m' ≡ ends.twin.memory
  ended-memory = ap (λ (s : Spaces). s.twin.memory) ends.does.heap

  pub ended-keeps : KeepsAsked o m' es
  ended-keeps =
      let left = left-by o m es k ends.twin t ends.does.thread request ends.log ends.leaves in
      let calls = ap (λ (x : Memory). x.calls) ended-memory in
      let few = left.few in
      region-acted o m es k m' end ends.does.acts
      (acted-regions o m es k m' end ends.does.acts ends.log ends.does.thread tt ends.logs
      (λ u lt other. subst (KeepsWhole (log_of m u)) (sym ended-memory) (left.others u lt other))
      (subst (λ (new : Memory). StandsLog (known_by (known_in o m) t ends.twin.memory.calls op.End [])
      (layout_in o es) new ends.log t) (sym ended-memory) left.own)) tt refl refl ends.doing
      (ap (λ (q : Queues). q.queues) ends.queue)
      (omega (arith, calls)) (omega (arith, calls, few))
