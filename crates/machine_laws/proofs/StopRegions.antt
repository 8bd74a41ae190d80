-- Regions: each of their events is events of the stop theorem, by the log of its thread.
use Rattle.std.proofs.Common.{◌≡◌, ℕ, ◌<◌, List, [], ◌∷◌, ◌++◌, length, Some, refl, sym, ◌∙◌, ap, subst, arith}
use Rattle.ap_base.specs.declared.reference.Ref.{Ref}
use Rattle.ap_base.specs.declared.reference.Item.{Item}
use Rattle.ap_base.specs.declared.place.Place.{Place}
use Rattle.natives.specs.declared.requests.Request.{Request}
use Rattle.natives.specs.declared.requests.Reply.{Reply}
use Rattle.run_history.specs.declared.act.Op.{Op}
use Rattle.run_history.specs.declared.act.Op.TheVariants as op
use Rattle.run_history.specs.Knowing.{owes_fence}
use Rattle.stop_theorem.specs.Running.{State, Events, none, more, with_act, with_memory}
use Rattle.region_log.specs.declared.entry.Entry.{Entry as LogEntry}
use Rattle.region_log.specs.Log.{Log}
use Rattle.region_events.specs.Guards.{StandsWith}
use Rattle.region_events.specs.Laws.{GoesWith, StoresInRegion}
use Rattle.region_events.proofs.Ending.{ending_is_events, fences_are_closings, last_calls_are_ends}
use Rattle.region_events.proofs.Logging.{logging_is_events}
use Rattle.region_events.proofs.Regions.{begins_are_events, guards_are_events, stores_are_events, ends_at_once}
use Rattle.twin_forms.specs.Table.{Entry}
use Rattle.twin_forms.specs.Sights.{Twin}
use Rattle.two_spaces.specs.Seen.{Spaces}
use Rattle.machine_forms.specs.declared.doing.Doing.TheVariants.{Nothing}
use Rattle.machine_forms.specs.Machines.{Opening, Machine, first_of, known_in, memory_of, log_of, layout_in, waits_in, state_in}
use Rattle.machine_forms.specs.Keeping.{KeepsHeap, KeepsRun}
use Rattle.machine_forms.specs.Events.{value_in, BeginsRegion, GuardsPlace, LogsWord, StoresLogged, EndsPart, ClosesRegion}
use Rattle.machine_forms.specs.Events.{LeavesLog, emptied, at_once, EndsByAct, RegionStep, begun, guarded, logged, stored}
use Rattle.machine_forms.specs.Events.{ending, closing, ended}
use Rattle.machine_laws.proofs.StopActing.{owes_nothing}
use Rattle.machine_laws.proofs.StopMoving.{RunsAt, runs_on, moved}
use Rattle.machine_laws.proofs.StopStoring.{StoresKept, stores_at}
use Rattle.machine_laws.proofs.Waiting.{waits_of, waits_same}

module _ (o : Opening) (m : Machine) (es : List Entry) (r : KeepsRun o m es) where
  abbrev now : State
  now = state_in o m es

  -- each thread's log stands with the machine
  stands_with : (t : ℕ) → t < 64 → RunsAt o now → StandsWith (first_of o) (log_of m t) now
  stands_with t below runs =
      let log = r.asked.regions.each t below in
      record {
        stands = runs.stands;
        telling = runs.tells;
        guards = log.guards;
        keeps = log.keeps;
        region = log.region;
        old = log.old;
      }

  events_run : (old new : State) → Events (first_of o) old new → RunsAt o old → RunsAt o new
  events_run old new (none s) runs = runs
  events_run old new (more s middle last before one) runs =
      runs_on o middle last r.heap.long one (events_run s middle before runs)

  goes : (log' : Log) (new : State) → GoesWith (first_of o) log' now new → RunsAt o now → RunsAt o new
  goes log' new went runs = events_run now new went.events runs

  -- so with an act of the log's thread
  acted : (t : ℕ) (operation : Op) (log' : Log) (s : State) → t < 64
      → GoesWith (first_of o) log' now (with_act s (log_of m t).thread operation []) → RunsAt o now
      → RunsAt o (with_act s t operation [])
  acted t operation log' s below went runs =
      subst (λ u. RunsAt o (with_act s u operation [])) (r.asked.regions.each t below).thread
      (goes log' (with_act s (log_of m t).thread operation []) went runs)

  -- ---- a region begins, and guards a place

  begins : (m' : Machine) (t : ℕ) (request : Request Ref Item) (reply : Reply Ref Item)
      → BeginsRegion o m m' es t request reply → RunsAt o now → RunsAt o (state_in o m' es)
  begins m' t request reply b runs =
      let below = b.does.thread in
      let went = begins_are_events (first_of o) (log_of m t) now (stands_with t below runs) b.may in
      let next : State = with_act now t op.Begin [] in
      moved o next.acts m'.acts (layout_in o es) (layout_in o es) (waits_in m) (waits_in m') (memory_of m)
      (memory_of m') b.does.acts refl (ap waits_of b.doing)
      (ap (λ (s : Spaces). s.twin.memory) b.does.heap)
      (acted t op.Begin _ now below went runs)

  guards : (t : ℕ) (request : Request Ref Item) (place : Place) (item : Item) (e : LogEntry)
      → GuardsPlace o m es t request place item e → RunsAt o now
      → RunsAt o (with_act now t (op.Guarded place) [])
  guards t request place item e g runs =
      acted t (op.Guarded place) _ now g.thread
      (guards_are_events (first_of o) (log_of m t) now (stands_with t g.thread runs) e place g.may) runs

  logs : (twin : Twin) (t : ℕ) (log' : Log) → LogsWord m twin t log' → RunsAt o now
      → RunsAt o (with_memory now twin.memory)
  logs twin t log' l runs =
      goes log' (with_memory now twin.memory)
      (logging_is_events (first_of o) (log_of m t) now (stands_with t l.thread runs) log' l.entry twin.memory
      l.logs) runs

  -- ---- it stores

  stores : (m' : Machine) → KeepsHeap o m' es → (t : ℕ) (request : Request Ref Item) (place : Place)
      (item : Item) → StoresLogged o m m' es t request place item → RunsAt o now
      → RunsAt o (state_in o m' es)
  stores m' h t request place item d runs =
      let known = known_in o m in
      let v = value_in m item in
      let below = d.does.thread in
      let next : State = with_act (with_memory now (memory_of m')) t (op.Stored place v) [] in
      let owes = owes_nothing o m es r t d.does.doing in
      let kept : StoresKept o m m' es t request place item =
      record { does = d.does; stores = d.stores; durable = d.durable; kept = d.kept } in
      let puts = stores_at o m es r m' h t request item place kept in
      let own = (r.asked.regions.each t below).thread in
      let region : StoresInRegion known (layout_in o es) (log_of m t) (memory_of m) (memory_of m') place v
      puts.0 = record {
        idle = d.idle;
        guard = d.guard ∙ ap Some (sym own);
        owes_none = ap (owes_fence known.unfenced) own ∙ owes.owes;
        stores = puts.1;
      } in
      let went = stores_are_events (first_of o) (log_of m t) now (stands_with t below runs) (memory_of m')
      place v puts.0 region in
      let many = r.asked.threads in
      let lt : t < length m.doing = omega (arith, many, below) in
      let acts : m'.acts ≡ next.acts = d.does.acts
      ∙ ap (λ n.
      m.acts ++ record { act = record { thread = t; at = n; op = op.Stored place v }; named = [] } ∷ [])
      (sym puts.1.puts.same.calls) in
      let waits : waits_in m' ≡ waits_in m = ap waits_of d.doing
      ∙ waits_same m.doing t Nothing lt (sym owes.waits) in
      moved o next.acts m'.acts (layout_in o es) (layout_in o es) (waits_in m) (waits_in m') (memory_of m')
      (memory_of m') acts refl waits refl
      (acted t (op.Stored place v) (log_of m t) (with_memory now (memory_of m')) below went runs)

  -- ---- it ends

  ends_on : (twin : Twin) (t : ℕ) (request : Request Ref Item) (log' : Log)
      → EndsPart o m twin t request log' → RunsAt o now → RunsAt o (with_memory now twin.memory)
  ends_on twin t request log' e runs =
      goes log' (with_memory now twin.memory)
      (ending_is_events (first_of o) (log_of m t) now (stands_with t e.calls.thread runs) log' twin.memory
      e.calls.call e.went) runs

  closes : (twin : Twin) (t : ℕ) (request : Request Ref Item) (log' : Log)
      → ClosesRegion o m twin t request log' → RunsAt o now
      → RunsAt o (with_act (with_memory now twin.memory) t op.Closing [])
  closes twin t request log' c runs =
      acted t op.Closing log' (with_memory now twin.memory) c.calls.thread
      (fences_are_closings (first_of o) (log_of m t) now (stands_with t c.calls.thread runs) log' twin.memory
      c.calls.call c.fences) runs

  leaves : (twin : Twin) (t : ℕ) (request : Request Ref Item) (log : Log) → t < 64
      → LeavesLog o m twin t request log → RunsAt o now
      → RunsAt o (with_act (with_memory now twin.memory) t op.End [])
  leaves twin t request log below (emptied log' e) runs =
      acted t op.End log' (with_memory now twin.memory) below
      (last_calls_are_ends (first_of o) (log_of m t) now (stands_with t below runs) log' twin.memory
      e.calls.call e.empties) runs
  leaves twin t request log below (at_once same asks idle ends) runs =
      subst (λ (w : Twin). RunsAt o (with_act (with_memory now w.memory) t op.End [])) (sym same)
      (acted t op.End _ now below
      (ends_at_once (first_of o) (log_of m t) now (stands_with t below runs) idle asks.is_open ends) runs)

  ends : (m' : Machine) (t : ℕ) (request : Request Ref Item) (reply : Reply Ref Item)
      → EndsByAct o m m' es t request reply → RunsAt o now → RunsAt o (state_in o m' es)
  ends m' t request reply e runs =
      let twin = e.twin in
      let next : State = with_act (with_memory now twin.memory) t op.End [] in
      moved o next.acts m'.acts (layout_in o es) (layout_in o es) (waits_in m) (waits_in m') twin.memory
      (memory_of m') e.does.acts refl (ap waits_of e.doing)
      (ap (λ (s : Spaces). s.twin.memory) e.does.heap)
      (leaves twin t request e.log e.does.thread e.leaves runs)

-- ---- each event

pub by_step : (o : Opening) (m : Machine) (es : List Entry) → KeepsRun o m es → (t : ℕ)
    (m' : Machine) → RegionStep o t m es m' → KeepsHeap o m' es → RunsAt o (state_in o m es) → RunsAt o (state_in o m' es)
by_step o m es r t m' (begun n request reply b) h runs = begins o m es r n t request reply b runs
by_step o m es r t m' (guarded request place item e g) h runs = guards o m es r t request place item e g runs
by_step o m es r t m' (logged twin log' l) h runs = logs o m es r twin t log' l runs
by_step o m es r t m' (stored n request place item d) h runs = stores o m es r n h t request place item d runs
by_step o m es r t m' (ending twin request log' e) h runs = ends_on o m es r twin t request log' e runs
by_step o m es r t m' (closing twin request log' c) h runs = closes o m es r twin t request log' c runs
by_step o m es r t m' (ended n request reply e) h runs = ends o m es r n t request reply e runs
