-- A region begins, and guards a place: what was asked is kept.
use Rattle.std.proofs.Common.{◌≡◌, ◌≢◌, inl, ℕ, ◌<◌, ◌≤◌, ◌^◌, true, List, [], ◌∷◌, ◌++◌, length, Some, None, refl, sym, ◌∙◌}
use Rattle.std.proofs.Common.{ap, subst, arith}
use Rattle.std.specs.Prelude.{slice_index_or, slice_set}
use Rattle.ap_base.specs.declared.place.Place.{Place}
use Rattle.ap_base.specs.declared.reference.Ref.{Ref}
use Rattle.ap_base.specs.declared.reference.Item.{Item}
use Rattle.natives.specs.declared.requests.Request.{Request}
use Rattle.natives.specs.declared.requests.Reply.{Reply}
use Rattle.image_meaning.specs.Logs.{may_be_logged}
use Rattle.line_memory.specs.Memory.{Memory}
use Rattle.run_history.specs.declared.act.Op.TheVariants as op
use Rattle.run_history.specs.Recorded.{Recorded}
use Rattle.run_history.specs.Knowing.{Knowledge, guard_of, pending_of, unfenced_at, next_known}
use Rattle.stop_theorem.specs.Layouts.{Layout}
use Rattle.stop_theorem.specs.InvariantEvents.{known_by}
use Rattle.region_log.specs.declared.entry.Entry.{Entry as LogEntry}
use Rattle.region_log.specs.declared.entry.Underway.{Underway}
use Rattle.region_log.specs.declared.entry.Underway.TheVariants.{Nothing as Idle}
use Rattle.region_log.specs.Log.{Log, IsLogged}
use Rattle.region_events.specs.Guards.{KeepsGuards}
use Rattle.region_events.specs.Laws.{MayBeGuarded, one_deeper, with_entry}
use Rattle.region_events.proofs.Acts.{begun_keeps, guarded_keeps}
use Rattle.region_events.proofs.Kept.{log_with}
use Rattle.region_events.proofs.Regions.{idle_kept}
use Rattle.twin_forms.specs.Table.{Entry}
use Rattle.two_spaces.specs.Seen.{Spaces}
use Rattle.convert_queue.specs.Queues.{Queues}
use Rattle.machine_forms.specs.declared.doing.Doing.{Doing}
use Rattle.machine_forms.specs.declared.doing.Doing.TheVariants.{Nothing}
use Rattle.machine_forms.specs.Machines.{Opening, Machine, known_in, memory_of, doing_of, log_of, layout_in}
use Rattle.machine_forms.specs.Keeping.{IsDoing, KeepsLogOf, KeepsRegions, KeepsAsked, KeepsRun}
use Rattle.machine_forms.specs.Events.{BeginsRegion, GuardsPlace, act_in, with_guarded}
use Rattle.machine_laws.proofs.Acts.{asked_after, unfenced_after, asked-next, unfenced-next, roots-next}
use Rattle.machine_laws.proofs.AskActing.{acted-keeps}
use Rattle.machine_laws.proofs.Changes.{whole-same}
use Rattle.machine_laws.proofs.Coming.{LeavesClosed}
use Rattle.machine_laws.proofs.WhatIsDone.{calls-same}
use Rattle.machine_laws.proofs.Fences.{same-closed, same-durable}
use Rattle.machine_laws.proofs.AskKeeping.{doing-kept, known-with, is-queues, are-durable}
use Rattle.machine_laws.proofs.Logs.{StandsLog, regions-own, whole-now}
use Rattle.machine_laws.proofs.Memories.{KeepsWhole}
use Rattle.machine_laws.proofs.Others.{GuardsNew, other-spares, apart-next}
use Rattle.machine_laws.proofs.Places.{place-may, places-apart}

-- ---- an act that leaves what is asked and owed

module _ (o : Opening) (m : Machine) (es : List Entry) (k : KeepsRun o m es) where
  pub now-stands : (t : ℕ) → t < 64
      → StandsLog (known_in o m) (layout_in o es) (memory_of m) (log_of m t) t
  now-stands t lt =
      let log : KeepsLogOf o m es t = k.asked.regions.each t lt in
      record { thread = log.thread; guards = log.guards; whole = whole-now o m es k t lt }

  module _ (m' : Machine) (a : Recorded) (acts : m'.acts ≡ m.acts ++ a ∷ []) where
    abbrev next : Knowledge
    next = next_known (known_in o m) a

    -- the region of the act's thread goes on, and no other does
    pub acted-regions : (log' : Log) → a.act.thread < 64 → GuardsNew (known_in o m) a.act.op
        → m'.logs ≡ slice_set m.logs a.act.thread log'
        → ((u : ℕ) → u < 64 → u ≢ a.act.thread → KeepsWhole (log_of m u) (memory_of m'))
        → StandsLog next (layout_in o es) (memory_of m') log' a.act.thread → KeepsRegions o m' es
    acted-regions log' lt new logs whole own =
        regions-own o m es k es m' next (known-with o m es k m' a acts) a.act.thread log' lt logs
        (λ u other. other-spares (known_in o m) a (layout_in o es) k.asked.regions.apart u other)
        (apart-next (known_in o m) a k.asked.regions.apart new) whole own

    pub region-acted : KeepsRegions o m' es → LeavesClosed (known_in o m) a.act.op
        → asked_after (known_in o m).asked a.act.thread a.act.op ≡ (known_in o m).asked
        → unfenced_after (known_in o m) a.act.thread a.act.op ≡ (known_in o m).unfenced
        → m'.doing ≡ m.doing → m'.queue.queues ≡ m.queue.queues → a.act.at ≤ (memory_of m').calls
        → (memory_of m').calls < 2 ^ 64 → KeepsAsked o m' es
    region-acted regions leaves asked unfenced doing queue timed few =
        acted-keeps o m m' es es k a (record {
          acts = acts;
          regions = regions;
          closed = same-closed o m es k a leaves;
          timed = timed;
          few = few;
          durable = same-durable o m es k a leaves;
          doing = λ u. subst (λ (ds : List Doing). IsDoing next (layout_in o es) u
              (slice_index_or ds u Nothing)) (sym doing)
              (doing-kept (known_in o m) next (layout_in o es) (layout_in o es) u (doing_of m u) (record {
                durable = are-durable o m es k;
                roots = roots-next (known_in o m) a;
                lines = λ n is. refl;
                size = refl;
                pending = same-pending u;
                unfenced = ap (λ us. unfenced_at us u) (unfenced-next (known_in o m) a ∙ unfenced);
              }) (k.asked.doing u));
          threads = ap length doing ∙ k.asked.threads;
          queued = λ u i n is. (
            is-queues m'.queue m.queue es u i n (sym queue) is,
            same-pending u,
            λ x h. is-queues m.queue m'.queue es u 0 x queue h,
          );
          claimed = λ u n c. (c, same-pending u);
        })
      where
        same-pending : (u : ℕ) → pending_of next.asked u ≡ pending_of (known_in o m).asked u
        same-pending u = ap (λ ps. pending_of ps u) (asked-next (known_in o m) a ∙ asked)

-- ---- a region begins

-- a log with nothing under way is kept at any depth
pub deep-whole : (log : Log) (m : Memory) (d : ℕ) → log.underway ≡ Idle → KeepsWhole log m
    → KeepsWhole (record log { depth = d }) m
deep-whole log m d idle is =
    record { keeps = idle_kept log m d idle is.keeps; region = is.region; old = is.old }

module _ (o : Opening) (m : Machine) (es : List Entry) (k : KeepsRun o m es) (m' : Machine) (t : ℕ)
    (request : Request Ref Item) (r : Reply Ref Item) (begins : BeginsRegion o m m' es t request r) where
  begun-memory : memory_of m' ≡ memory_of m
  begun-memory = ap (λ (s : Spaces). s.twin.memory) begins.does.heap

  begun-stands : StandsLog (known_by (known_in o m) t (memory_of m).calls op.Begin []) (layout_in o es)
      (memory_of m') (one_deeper (log_of m t)) t
  begun-stands =
      let log = now-stands o m es k t begins.does.thread in record {
        thread = log.thread;
        guards = subst (λ u. KeepsGuards (known_by (known_in o m) u (memory_of m).calls op.Begin [])
            (layout_in o es) (one_deeper (log_of m t))) log.thread
            (begun_keeps (known_in o m) (layout_in o es) (log_of m t) (memory_of m).calls begins.may.room
            begins.may.there log.guards);
        whole = deep-whole (log_of m t) (memory_of m') (one_deeper (log_of m t)).depth begins.may.idle
            (whole-same o m es k (memory_of m') t begins.does.thread begun-memory);
      }

  pub begun-keeps : KeepsAsked o m' es
  begun-keeps =
      let calls = calls-same o m m' es t request op.Begin r k begins.does in
      let few = k.asked.few in
      region-acted o m es k m' (act_in m t op.Begin []) begins.does.acts
      (acted-regions o m es k m' (act_in m t op.Begin []) begins.does.acts (one_deeper (log_of m t))
      begins.does.thread tt begins.logs
      (λ u lt other. whole-same o m es k (memory_of m') u lt begun-memory) begun-stands) tt refl refl
      begins.doing (ap (λ (q : Queues). q.queues) begins.queue) (omega (arith, calls)) (omega (arith, calls, few))

-- ---- a place is guarded

module _ (o : Opening) (m : Machine) (es : List Entry) (k : KeepsRun o m es) (t : ℕ)
    (request : Request Ref Item) (place : Place) (item : Item) (e : LogEntry)
    (guards : GuardsPlace o m es t request place item e) where
  abbrev lay : Layout
  lay = layout_in o es

  abbrev calls : ℕ
  calls = (memory_of m).calls

  -- no word has two places
  unlogged : IsLogged (log_of m t).entries e.spot → ⊥
  unlogged logged =
      let log = now-stands o m es k t guards.thread in
      let at = log.guards.places e.spot (inl logged) in
      let same : place ≡ at.0 = places-apart o m es k place at.0 guards.may.is_kept at.2.is_kept
      (sym guards.may.word.line ∙ at.1.line) (sym guards.may.word.word ∙ at.1.word) in
      let no : None ≡ Some (log_of m t).thread = sym guards.may.unguarded
      ∙ ap (guard_of (known_in o m).guards) same ∙ at.2.guard in cc

  may-be : may_be_logged (memory_of m).size e.spot.line ≡ true
  may-be = subst (λ l. may_be_logged (memory_of m).size l ≡ true) (sym guards.may.word.line)
      (place-may o m es k place guards.may.is_kept)

  -- with the parts of a log
  guarded-with : (depth : ℕ) (entries : List LogEntry) → (IsLogged entries e.spot → ⊥)
      → MayBeGuarded (known_in o m) lay (memory_of m) (log_with t depth entries Idle) e place
      → StandsLog (known_in o m) lay (memory_of m) (log_with t depth entries Idle) t
      → StandsLog (known_by (known_in o m) t calls (op.Guarded place) []) lay (memory_of m)
      (with_entry (log_with t depth entries Idle) e) t
  guarded-with depth entries none may s = record {
    thread = refl;
    guards = guarded_keeps (known_in o m) lay t depth calls entries e place may.is_open may.is_kept
        may.unguarded may.word s.guards;
    whole = record {
      keeps = record {
        thread = s.whole.keeps.thread;
        size = s.whole.keeps.size;
        room = s.whole.keeps.room;
        places = s.whole.keeps.places;
        once = s.whole.keeps.once;
        fits = (record { place = may-be; unlogged = none }, may.room);
        words = s.whole.keeps.words;
      };
      region = tt;
      old = may.old;
    };
  }

  guarded-stands : StandsLog (known_by (known_in o m) t calls (op.Guarded place) []) lay (memory_of m)
      (with_entry (log_of m t) e) t
  guarded-stands =
      let s = now-stands o m es k t guards.thread in
      let log = log_of m t in
      let At : ℕ → Underway → Type 0 = λ (v : ℕ) (u : Underway).
      MayBeGuarded (known_in o m) lay (memory_of m) (log_with v log.depth log.entries u) e place
      → StandsLog (known_in o m) lay (memory_of m) (log_with v log.depth log.entries u) t
      → StandsLog (known_by (known_in o m) t calls (op.Guarded place) []) lay (memory_of m)
      (with_entry (log_with v log.depth log.entries u) e) t in
      let there : At t Idle = guarded-with log.depth log.entries unlogged in
      let idle : At t log.underway = subst (At t) (sym guards.may.idle) there in
      let own : At log.thread log.underway = subst (λ v. At v log.underway) (sym s.thread) idle in
      own guards.may s

  pub guarded-keeps : KeepsAsked o (with_guarded m t place e) es
  guarded-keeps =
      region-acted o m es k (with_guarded m t place e) (act_in m t (op.Guarded place) []) refl
      (acted-regions o m es k (with_guarded m t place e) (act_in m t (op.Guarded place) []) refl
      (with_entry (log_of m t) e) guards.thread guards.may.unguarded refl
      (λ u lt other. whole-now o m es k u lt) guarded-stands) tt refl refl refl refl (omega arith) k.asked.few
