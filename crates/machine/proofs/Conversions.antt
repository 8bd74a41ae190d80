-- Steps of conversions, and seals.
use Rattle.std.proofs.Common.{◌≡◌, ◌⊎◌, inl, inr, ℕ, ◌+◌, ◌-◌, ◌<◌, ◌≤◌, List, [], ◌∷◌, ◌++◌, length, refl, sym, ◌∙◌, ap, subst}
use Rattle.std.proofs.Common.{arith}
use Rattle.ap_base.specs.Causes.{next_count}
use Rattle.ap_base.specs.declared.reference.Ref.{Ref}
use Rattle.ap_base.specs.declared.reference.Item.{Item}
use Rattle.run_types.specs.declared.fault.RunFault.TheVariants as fault
use Rattle.run_types.specs.declared.fault.StepFault.TheVariants as met
use Rattle.run_types.specs.declared.fault.Which.TheVariants as which
use Rattle.run_types.specs.declared.wait.On.TheVariants as on
use Rattle.natives.specs.declared.requests.Request.{Request}
use Rattle.line_memory.specs.Memory.{Memory, SameImage, OneCall}
use Rattle.run_history.specs.declared.act.Op.TheVariants as op
use Rattle.run_history.specs.Recorded.{History, Recorded}
use Rattle.plain_model.specs.Facts.{SetFacts}
use Rattle.run_forms.specs.Views.{ThreadFrames}
use Rattle.run_forms.specs.Ends.{IsEndedBy}
use Rattle.twin_forms.specs.Table.{Entry}
use Rattle.twin_forms.specs.Sights.{Twin, view_of}
use Rattle.twin_forms.proofs.Tables.{alike}
use Rattle.two_spaces.specs.Whole.{Stands}
use Rattle.convert_queue.specs.Queues.{Queues, total}
use Rattle.convert_words.specs.declared.step.ConvertStep.{ConvertStep}
use Rattle.convert_words.specs.declared.step.ConvertStep.TheVariants as step
use Rattle.convert_words.specs.Scenes.{AgreesAt, Scene}
use Rattle.convert_words.specs.Converting.{GoesOn, Says, Waits as WaitsOf}
use Rattle.converter.proofs.Waiting.{waiting_threads_lack}
use Rattle.convert_waits.specs.Stuck.{HoldsWait}
use Rattle.machine_threads.specs.Passed.{Converting}
use Rattle.machine_threads.specs.Passed.{Opening, Machine, doing_of, memory_of, scene_of}
use Rattle.machine_threads.specs.Passed.{Converted, act_in, value_in, with_joined}
use Rattle.machine_threads.specs.Happening as event
use Rattle.machine_threads.specs.Passed.{group_names}
use Rattle.machine_threads.proofs.Passed.{counted}
use Rattle.machine_threads.specs.Passed.{work_left}
use Rattle.machine_threads.specs.Passed.{StoresFreely}
use Rattle.machine_threads.specs.Claiming.{HasForwarded}
use Rattle.machine_threads.specs.Keeping.{LagsByItsStore}
use Rattle.machine_threads.specs.Stuck.{plain_waits}
use Rattle.object_steps.specs.declared.storing.Store.{Store}
use Rattle.object_steps.specs.Stores.{place_of}
use Rattle.shared_heap.specs.Passed.{ConvertsFirst}
use Rattle.shared_heap.specs.Passed.{IsApart}
use Rattle.shared_heap.specs.declared.conversions.Conversion.{Conversion}
use Rattle.shared_heap.specs.declared.conversions.Conversion.TheVariants as did
use Rattle.shared_heap.specs.Notes.{ThreadNotes}
use Rattle.shared_heap.specs.Shared.{Shared}
use Rattle.shared_heap.specs.Conversions.{Converts, FailsTo, GoesOnce, GoesTo, JoinsOnce, MovesOn}
use Rattle.machine.specs.declared.events.Event.TheVariants.{Micro, Over, WouldWait}
use Rattle.machine.specs.declared.events.Halt.TheVariants.{Met}
use Rattle.machine.specs.Halts.{lacks}
use Rattle.machine.specs.Ended.{HasPlanned, HasSomePlanned, IsThread, StoreComesTo, went_event}
use Rattle.machine.specs.Events.{AsksOn, Comes, FindsConversion, SparesSink, KeepsRows, KeepsRowsByNeed}
use Rattle.convert_waits.specs.Rows.{InRow, Why, with_wait}
use Rattle.convert_waits.specs.Rows.Why.{Member}
use Rattle.converter.specs.Laws.{AreUnwritten, quiet}
use Rattle.std.proofs.Common.{Option}
use Rattle.convert_waits.proofs.Rows.{converting_waits_keep, needing_waits_keep}
use Rattle.machine.specs.Laws.{Laws}
use Rattle.machine.specs.Running.{HadNoFault}
use Rattle.machine.proofs.Awaiting.{none-moves, none-seals}
use Rattle.machine.proofs.Basics.{not-longer}
use Rattle.machine.proofs.Bound.{act-bound, quiet-bound, wait-bound}
use Rattle.machine.proofs.Faults.{none-more}
use Rattle.machine.proofs.Freely.{freely-volatile}
use Rattle.machine.proofs.Leaving.{AsksStill, Kept, as-they-were, asks-by, converts-now, logs-same, few, goes-on, happened}
use Rattle.machine.proofs.Leaving.{lives, same-size}
use Rattle.machine.proofs.Planned.{is-store, waits-none}
use Rattle.machine.proofs.Queued.{claimed-queued}
use Rattle.machine.proofs.Refusing.{refused-over}
use Rattle.machine.proofs.Waiting.{touches-none}

-- ---- lines that are left

-- For each object that is queued, and each line that is left, an object can be named.
abbrev Roomy : (queued size free room : ℕ) → Type 0
Roomy queued size free room = queued + (size - free) ≤ room

next-room : (answer : ConvertStep) (t : ℕ) (s s' : Scene) (es es' : List Entry) (room : ℕ) → t < 64
    → length s.queue.queues ≡ 64 → MovesOn answer → Says answer t s s' es es'
    → Roomy (total s.queue.queues) s.heap.memory.size s.free room
    → Roomy (total s'.queue.queues) s.heap.memory.size s'.free room
next-room (step.Sealed set) t s s' es es' room below long moves says roomy = absurd moves
next-room (step.Wait u) t s s' es es' room below long moves says roomy = absurd moves
next-room (step.Full need left) t s s' es es' room below long moves says roomy = absurd moves
next-room step.Claimed t s s' es es' room below long moves says roomy =
    let queued = claimed-queued s s' es es' t below long says.0 in
    let free = says.0.free in
    let fits = says.0.fits in
    omega (arith, queued, free, fits, roomy)
next-room step.Touched t s s' es es' room below long moves says roomy =
    let free = says.1.1 in let queued = ap (λ (q : Queues). total q.queues) says.0.queue in omega (arith, free, queued, roomy)
next-room step.WroteBack t s s' es es' room below long moves says roomy =
    let free = says.1.1 in let queued = ap (λ (q : Queues). total q.queues) says.0.queue in omega (arith, free, queued, roomy)
next-room step.Fenced t s s' es es' room below long moves says roomy =
    let free = says.1.1 in let queued = ap (λ (q : Queues). total q.queues) says.0.queue in omega (arith, free, queued, roomy)
next-room step.CopiedLine t s s' es es' room below long moves says roomy =
    let free = says.1.1 in let queued = ap (λ (q : Queues). total q.queues) says.0.queue in omega (arith, free, queued, roomy)
next-room step.Forwarded t s s' es es' room below long moves says roomy =
    let free = says.1.1 in let queued = ap total says.0.goes.queues in omega (arith, free, queued, roomy)
next-room step.Repaired t s s' es es' room below long moves says roomy =
    let free = says.1.1 in let queued = ap total says.0.goes.queues in omega (arith, free, queued, roomy)

-- by another table of the same heap a thread has claimed the same, as far
forwarded-alike : (s : Scene) (es es' : List Entry) (t : ℕ) → AgreesAt s es → AgreesAt s es' → HasForwarded es t
    → HasForwarded es' t
forwarded-alike s es es' t agrees agrees' forwarded n claimed =
    let there : n < length es = (let lt = claimed.0 in omega (arith, lt, agrees.lies.long, agrees'.lies.long)) in
    let same = alike (view_of s.heap) es es' n agrees.lies agrees'.lies there in
    same.stage ∙ forwarded n (there, sym same.owner ∙ claimed.1)

module _ (laws : Laws) (o : Opening) (first : ℕ) (set : SetFacts) (s : Shared) (es : List Entry)
    (threads : List ThreadFrames) (t : ℕ) (fs : ThreadFrames) (request : Request Ref Item) (store : Store)
    (h : HasPlanned o first set s es threads t fs request store)
    (free : StoresFreely o s.machine t (place_of store.target) (value_in s.machine store.kept))
    (room : length s.history.acts < s.history.limit)
    (converting : doing_of s.machine t ≡ Converting) (new : Shared) where
  -- the heap converts by whatever table it agrees with
  converts-at : (table : List Entry) → AgreesAt (scene_of s.machine) table → AreUnwritten s.machine.queue table
      → Converts s table
  converts-at table agrees unwritten =
      let own = converts-now laws o first set s es threads t fs request h.due in record {
        agrees = agrees;
        unwritten = unwritten;
        unnamed = own.unnamed;
        lines = own.lines;
        within = own.within;
        sound = own.sound;
      }

  -- ---- a machine that was converted

  module _ (m' : Machine) (same : Converted s.machine m') where
    acts-stay : m'.acts ≡ s.machine.acts
    acts-stay = ap (λ (m : Machine). m.acts) same

    doing-stays : doing_of m' t ≡ Converting
    doing-stays = ap (λ (m : Machine). doing_of m t) same ∙ converting

    logs-stay : m'.logs ≡ s.machine.logs
    logs-stay = ap (λ (m : Machine). m.logs) same

    threads-stay : m'.rest.threads ≡ s.machine.rest.threads
    threads-stay = ap (λ (m : Machine). m.rest.threads) same

    numbers-stay : m'.spaces.numbers ≡ s.machine.spaces.numbers
    numbers-stay = ap (λ (m : Machine). m.spaces.numbers) same

  own-asks : (m' : Machine) (same : Converted s.machine m') → AsksStill o m' t fs
  own-asks m' same = record {
    lags = subst (λ d. LagsByItsStore o.launch d fs) (sym (doing-stays m' same)) tt;
    logs = logs-same laws o first set s es threads t fs request h.due m' (logs-stay m' same);
  }

  -- ---- a step

  module _ (answer : ConvertStep) (g : GoesOnce t answer s new es) where
    -- each step that moves on is a quiet one: a touch never comes, for each line is resident
    lowers : (a : ConvertStep) → MovesOn a → answer ≡ a → quiet a ≡ 1
    lowers (step.Sealed set) moves is = absurd moves
    lowers (step.Wait u) moves is = absurd moves
    lowers (step.Full need left) moves is = absurd moves
    lowers step.Touched moves is = absurd (touches-none laws.resident g.on.event.at (scene_of new.machine)
        es g.on.event.after t g.on.event.goes_on.agrees
        (subst (λ a. Says a t g.on.event.at (scene_of new.machine) es g.on.event.after) is
        g.on.event.converts.says).0)
    lowers step.Claimed moves is = refl
    lowers step.WroteBack moves is = refl
    lowers step.Fenced moves is = refl
    lowers step.CopiedLine moves is = refl
    lowers step.Forwarded moves is = refl
    lowers step.Repaired moves is = refl

    step-keeps : Kept o first t s.machine new.machine es g.on.event.after threads threads
    step-keeps = happened laws o first set s es threads t fs request h.due
        (event.converted new.machine answer g.on g.other) [] h.due.asks.frames tt tt
        (as-they-were laws o first set s es threads t fs request h.due new.machine (own-asks new.machine g.on.same))

    step-asks : Roomy (total new.machine.queue.queues) (memory_of new.machine).size new.machine.free new.history.room
        → AsksOn o first s new es threads t
    step-asks room_now =
        let size = same-size laws o first set s es threads t fs request h.due new.machine g.on.event.after
        step-keeps.keeps in
        let same = acts-stay new.machine g.on.same in record {
          after = g.on.event.after;
          runs = goes-on laws o first set s es threads t fs request h.due new g.on.event.after threads (record {
            kept = step-keeps;
            many = h.due.running.many ∙ sym (ap length (threads-stay new.machine g.on.same));
            lines = g.converts.lines ∙ size ∙ sym h.due.running.lines;
            acts = ap (λ (x : History). x.acts) g.history ∙ h.due.running.acts ∙ sym same;
            limit = ap (λ (x : History). x.limit) g.history;
            unnamed = g.converts.unnamed;
            room = room_now;
            numbers = numbers-stay new.machine g.on.same;
            unfaulted = subst (HadNoFault o.launch) (sym same) h.due.running.unfaulted;
          });
          own = asks-by o s.machine new.machine threads t (threads-stay new.machine g.on.same);
          others = step-keeps.others;
        }

    -- the place at which the step was made has the heap, the queues and the lines of before
    room-before : Roomy (total g.on.event.at.queue.queues) g.on.event.at.heap.memory.size g.on.event.at.free
        new.history.room
    room-before =
        let at = g.on.event.goes_on in
        let size : g.on.event.at.heap.memory.size ≡ (memory_of s.machine).size = ap (λ (x : Twin). x.memory.size) at.heap in
        let free = at.free in
        let queued = ap total at.queues in
        let room_is = ap (λ (x : History). x.room) g.history in
        let before = h.due.running.room in
        omega (arith, size, free, queued, room_is, before)

    same-end : (memory_of new.machine).size ≡ g.on.event.at.heap.memory.size
    same-end = g.on.event.converts.size

    went-comes : MovesOn answer → FindsConversion o s.machine t Micro
        → (memory_of new.machine).faults ≡ (memory_of s.machine).faults
        → Comes o first es threads t fs request Micro s new
    went-comes moves stopped cause = record {
      goes = step-asks (subst (λ n. Roomy (total new.machine.queue.queues) n new.machine.free new.history.room)
          (sym same-end)
          (next-room answer t g.on.event.at (scene_of new.machine) es g.on.event.after new.history.room h.due.thread
          g.on.event.goes_on.agrees.sizes.queues moves g.on.event.converts.says room-before));
      acts = inl (ap (λ (x : History). x.acts) g.history);
      calls = counted o s.machine es h.due.running.keeps new.machine t answer g.on;
      cause = cause;
      answers = tt;
      finds = λ logs. waits-none laws o first set s es threads t fs request store h;
      awaits = stopped;
      numbers = numbers-stay new.machine g.on.same;
      quiet = λ micro none. (let less = laws.measure.steps o s.machine es h.due.running.keeps
          h.due.running.unwritten new.machine t answer g.on in
          let one = lowers answer moves refl in omega (arith, less, one));
      waits = λ on no. absurd (let e = no in cc);
      work = quiet-bound s new (let less = laws.work.steps o s.machine es h.due.running.keeps
          h.due.running.unwritten new.machine t answer g.on in
          let one = lowers answer moves refl in omega (arith, less, one));
      asks = ap (λ (y : ThreadNotes). y.asks) g.notes;
      noted = ap (λ (y : ThreadNotes). y.waits) g.notes;
    }

  -- ---- a refusal

  module _ (need left : ℕ) (g : GoesOnce t (step.Full need left) s new es) where
    full-comes : (memory_of new.machine).faults ≡ (memory_of s.machine).faults
        → Comes o first es threads t fs request (Over (Met (lacks which.ImageLines need left))) s new
    full-comes cause =
        let now = step-keeps (step.Full need left) g in record {
          goes = refused-over laws o first set s es threads t fs request store h free room need left new
              g.on.event.after now.keeps now.plain
              g.history (acts-stay new.machine g.on.same)
              (laws.ends.refused_steps o s.machine es first h.due.running.keeps h.due.running.taken
              new.machine t need left g.on);
          acts = ap (λ (x : History). x.acts) g.history;
          calls = counted o s.machine es h.due.running.keeps new.machine t (step.Full need left) g.on;
          cause = cause;
          answers = tt;
          finds = tt;
          awaits = λ u w. tt;
          numbers = numbers-stay new.machine g.on.same;
          quiet = λ micro none. absurd (let no = micro in cc);
          waits = λ on no. absurd (let e = no in cc);
          work = tt;
          asks = ap (λ (y : ThreadNotes). y.asks) g.notes;
          noted = ap (λ (y : ThreadNotes). y.waits) g.notes;
        }

  -- ---- a wait

  module _ (u : ℕ) (below : u < 64) (g : GoesOnce t (step.Wait u) s new es)
      (all : (table : List Entry) → Converts s table → GoesOnce t (step.Wait u) s new table) where
    its : AgreesAt (scene_of new.machine) es × WaitsOf (scene_of new.machine) es t u
    its = waiting_threads_lack t u (scene_of s.machine) (scene_of new.machine) es s.machine.rest.monitors
        new.machine.rest.monitors g.on.event

    same-at : scene_of new.machine ≡ g.on.event.at
    same-at = g.on.event.converts.says.1

    wait-room : Roomy (total new.machine.queue.queues) (memory_of new.machine).size new.machine.free new.history.room
    wait-room = subst (λ (x : Scene). Roomy (total x.queue.queues) x.heap.memory.size x.free new.history.room)
        (sym same-at) (room-before (step.Wait u) g)

    holds-now : HoldsWait (plain_waits o new.machine) (scene_of new.machine) es t (on.Conversion u)
    holds-now = elim its.1.why [
      | inl for ↦ inl (record {
        settled = for.settled;
        member = for.unsettled.group.least u for.unsettled.member;
        unsettled = for.unsettled.unsettled;
      })
      | inr behind ↦ inr behind
    ]

    -- ---- rows, over whatever table

    at-table : (table : List Entry) → AgreesAt (scene_of s.machine) table → AreUnwritten s.machine.queue table
        → GoesOnce t (step.Wait u) s new table
    at-table table agrees unwritten = all table (converts-at table agrees unwritten)

    -- the plain world's waits are as they were
    row-now : (table : List Entry) (waited : ℕ → Option Why)
        → InRow (plain_waits o s.machine) (scene_of new.machine) table waited
        → InRow (plain_waits o new.machine) (scene_of new.machine) table waited
    row-now table waited = subst (λ (acts : List Recorded). InRow (plain_waits o (record s.machine { acts = acts }))
        (scene_of new.machine) table waited) (sym (acts-stay new.machine g.on.same))

    wait-rows : KeepsRows o t (on.Conversion u) s.machine new.machine
    wait-rows table waited row =
        let its = at-table table row.agrees row.unwritten in
        let kept = converting_waits_keep (plain_waits o s.machine) (scene_of s.machine) (scene_of new.machine) table
        s.machine.rest.monitors new.machine.rest.monitors waited t u below row its.on.event in
        (kept.0, kept.1, row-now table (with_wait waited t kept.0) kept.2)

    need-rows : KeepsRowsByNeed o t (on.Conversion u) s.machine new.machine
    need-rows converts begun before table waited row begins agrees unwritten =
        let its = at-table table agrees unwritten in
        let says = its.on.event.converts.says in
        let goes : GoesOn t (scene_of s.machine) (scene_of new.machine) table
        = subst (λ (x : Scene). GoesOn t (scene_of s.machine) x table) (sym says.1) its.on.event.goes_on in
        let waits : WaitsOf (scene_of new.machine) table t u
        = subst (λ (x : Scene). WaitsOf x table t u) (sym says.1) says.0 in (
          Member u,
          refl,
          row-now table (with_wait waited t (Member u)) (needing_waits_keep (plain_waits o s.machine) before
              (scene_of s.machine) (scene_of new.machine) table waited t u below row begins goes waits),
        )

    waits-comes : (memory_of new.machine).faults ≡ (memory_of s.machine).faults
        → Comes o first es threads t fs request (WouldWait (on.Conversion u)) s new
    unfolding step-asks
    waits-comes cause = record {
      goes = record {
        asks = step-asks (step.Wait u) g wait-room;
        table = es;
        agrees = its.0;
        holds = holds-now;
        forwarded = forwarded-alike (scene_of new.machine) es g.on.event.after t its.0 g.on.event.converts.agrees
            its.1.forwarded;
        ready = inr (doing-stays new.machine g.on.same);
        below = below;
        rows = wait-rows;
        needing = need-rows;
        history = λ plain. absurd plain;
      };
      acts = ap (λ (x : History). x.acts) g.history;
      calls = counted o s.machine es h.due.running.keeps new.machine t (step.Wait u) g.on;
      cause = cause;
      answers = tt;
      finds = waits-none laws o first set s es threads t fs request store h;
      awaits = λ v w. tt;
      numbers = numbers-stay new.machine g.on.same;
      quiet = λ micro none. absurd (let no = micro in cc);
      waits = λ on is. (let less = laws.measure.steps o s.machine es h.due.running.keeps
          h.due.running.unwritten new.machine t (step.Wait u) g.on in omega (arith, less));
      work = wait-bound s new (on.Conversion u) (let less = laws.work.steps o s.machine es h.due.running.keeps
          h.due.running.unwritten new.machine t (step.Wait u) g.on in
          let same = ap (λ (x : Scene). x.free) same-at ∙ g.on.event.goes_on.free in omega (arith, less, same));
      asks = ap (λ (y : ThreadNotes). y.asks) g.notes;
      noted = ap (λ (y : ThreadNotes). y.waits) g.notes;
    }

  -- ---- a seal

  module _ (j : JoinsOnce t s new es) where
    abbrev named : List ℕ
    named = group_names (scene_of s.machine) j.set

    abbrev joined : Recorded
    joined = act_in j.between t op.Joined named

    abbrev after_seal : List Entry
    after_seal = j.seals.converts.event.after

    abbrev between-same : Converted s.machine j.between
    between-same = j.seals.converts.same

    acts-now : new.machine.acts ≡ s.machine.acts ++ joined ∷ []
    acts-now = ap (λ (m : Machine). m.acts) j.machine
        ∙ ap (λ (xs : List Recorded). xs ++ joined ∷ []) (acts-stay j.between between-same)

    history-now : new.history.acts ≡ s.history.acts ++ joined ∷ []
    history-now = ap (λ (x : History). x.acts) j.history
        ∙ ap (λ (ns : List ℕ). s.history.acts ++ record { act = joined.act; named = ns } ∷ [])
        (ap (λ (ns : List ℕ). ns ++ named) h.due.running.unnamed)

    free-now : new.machine.free ≡ s.machine.free
    free-now = ap (λ (m : Machine). m.free) j.machine ∙ j.seals.converts.event.converts.says.free
        ∙ j.seals.converts.event.goes_on.free

    sealed-keeps : Kept o first t s.machine new.machine es after_seal threads threads
    sealed-keeps = subst (λ (m : Machine). Kept o first t s.machine m es after_seal threads threads) (sym j.machine)
        (happened laws o first set s es threads t fs request h.due (event.sealed j.between j.set named j.seals) []
        h.due.asks.frames tt tt
        (as-they-were laws o first set s es threads t fs request h.due (with_joined j.between t named)
        (record {
          lags = (own-asks j.between between-same).lags;
          logs = (own-asks j.between between-same).logs;
        })))

    sealed-room : Roomy (total new.machine.queue.queues) (memory_of new.machine).size new.machine.free new.history.room
    sealed-room =
        let size = same-size laws o first set s es threads t fs request h.due new.machine after_seal sealed-keeps.keeps in
        let free = free-now in
        let left = j.left in
        let room_is = ap (λ (x : History). x.room) j.history in
        let before = h.due.running.room in
        omega (arith, size, free, left, room_is, before)

    joined-comes : FindsConversion o s.machine t Micro
        → (memory_of new.machine).faults ≡ (memory_of s.machine).faults
        → Comes o first es threads t fs request Micro s new
    joined-comes stopped cause =
        let size = same-size laws o first set s es threads t fs request h.due new.machine after_seal
        sealed-keeps.keeps in record {
          goes = record {
            after = after_seal;
            runs = goes-on laws o first set s es threads t fs request h.due new after_seal threads (record {
              kept = sealed-keeps;
              many = h.due.running.many ∙ sym (ap (λ (m : Machine). length m.rest.threads) j.machine
                  ∙ ap length (threads-stay j.between between-same));
              lines = j.converts.lines ∙ size ∙ sym h.due.running.lines;
              acts = history-now ∙ ap (λ (xs : List Recorded). xs ++ joined ∷ []) h.due.running.acts
                  ∙ sym acts-now;
              limit = ap (λ (x : History). x.limit) j.history;
              unnamed = j.converts.unnamed;
              room = sealed-room;
              numbers = ap (λ (m : Machine). m.spaces.numbers) j.machine ∙ numbers-stay j.between between-same;
              unfaulted = subst (HadNoFault o.launch) (sym acts-now)
                  (none-more o.launch s.machine.acts joined h.due.running.unfaulted (λ lines.
                  laws.ends.stores_meet o s.machine es threads h.due.running.keeps h.due.running.plain
                  lines t fs request _ store.kept h.ready h.due.asks
                  (is-store laws o first set s es threads t fs request store h)
                  free (few laws o first set s es threads t fs request h.due room)));
            });
            own = asks-by o s.machine new.machine threads t
                (ap (λ (m : Machine). m.rest.threads) j.machine ∙ threads-stay j.between between-same);
            others = sealed-keeps.others;
          };
          acts = inr (record { act = joined; thread = refl; acts = history-now });
          calls = subst (λ (m : Machine). SameImage (memory_of s.machine) (memory_of m)
              ⊎ OneCall (memory_of s.machine) (memory_of m)) (sym j.machine)
              (counted o s.machine es h.due.running.keeps j.between t (step.Sealed j.set) j.seals.converts);
          cause = cause;
          answers = tt;
          finds = λ logs. waits-none laws o first set s es threads t fs request store h;
          awaits = stopped;
          numbers = ap (λ (m : Machine). m.spaces.numbers) j.machine ∙ numbers-stay j.between between-same;
          quiet = λ micro none. not-longer s.history.acts joined (sym history-now ∙ none);
          waits = λ on no. absurd (let e = no in cc);
          work = act-bound s new Micro joined history-now
              (subst (λ (m : Machine). work_left m ≤ work_left s.machine + 16) (sym j.machine)
              (let none = laws.work.seals o s.machine es h.due.running.keeps h.due.running.unwritten j.between t j.set
              named j.seals in omega (arith, none)));
          asks = ap (λ (y : ThreadNotes). y.asks) j.notes;
          noted = ap (λ (y : ThreadNotes). y.waits) j.notes;
        }

  -- ---- a step whose call failed

  module _ (f : FailsTo t s new es) where
    failed-comes : (memory_of new.machine).faults ≡ next_count (memory_of s.machine).faults
        → Comes o first es threads t fs request (Over (Met met.ImageFault)) s new
    failed-comes cause =
        let c = f.fails in
        let memory : c.event.at.heap.memory ≡ memory_of s.machine =
        ap (λ (x : Twin). x.memory) c.event.goes_on.heap in
        let now = happened laws o first set s es threads t fs request h.due (event.failed new.machine c) []
        h.due.asks.frames tt tt
        (as-they-were laws o first set s es threads t fs request h.due new.machine (own-asks new.machine c.same)) in
        let same = acts-stay new.machine c.same in record {
          goes = record {
            after = es;
            keeps = now.keeps;
            plain = now.plain;
            history = f.history;
            acts = same;
            ends = subst (λ (xs : List Recorded). IsEndedBy o.launch ((memory_of new.machine).size - first)
                xs t fault.ImageFault) (sym same)
                (laws.ends.image o s.machine es threads h.due.running.keeps h.due.running.plain
                ((memory_of new.machine).size - first) t fs
                (lives laws o first set s es threads t fs request h.due)
                (few laws o first set s es threads t fs request h.due room));
          };
          acts = ap (λ (x : History). x.acts) f.history;
          calls = inr (subst (λ (x : Memory). OneCall x (memory_of new.machine)) memory c.event.fails.call);
          cause = cause;
          answers = tt;
          finds = tt;
          awaits = λ u w. tt;
          numbers = numbers-stay new.machine c.same;
          quiet = λ micro none. absurd (let no = micro in cc);
          waits = λ on no. absurd (let e = no in cc);
          work = tt;
          asks = ap (λ (y : ThreadNotes). y.asks) f.notes;
          noted = ap (λ (y : ThreadNotes). y.waits) f.notes;
        }

-- ---- of each run

module _ (laws : Laws) (s new : Shared) (t : ℕ) (store : Store) (object : Ref)
    (apart : IsApart s.machine.spaces s.machine.logs t (place_of store.target))
    (convert : (es : List Entry) → Stands s.machine.spaces es → ConvertsFirst s.machine.spaces es store object)
    (room : length s.history.acts < s.history.limit)
    (converting : doing_of s.machine t ≡ Converting)
    (cause : (memory_of new.machine).faults ≡ (memory_of s.machine).faults) where
  abbrev Goes : Conversion → Type 0
  Goes result = (es : List Entry) → Converts s es → GoesTo t result s new es

  module _ (o : Opening) (first : ℕ) (set : SetFacts) (es : List Entry) (threads : List ThreadFrames)
      (fs : ThreadFrames) (request : Request Ref Item)
      (h : HasPlanned o first set s es threads t fs request store) where
    free : StoresFreely o s.machine t (place_of store.target) (value_in s.machine store.kept)
    free = freely-volatile laws o first set s es threads t fs request store h apart object
        (convert es h.due.running.keeps.heap.whole)

    -- a thread that waits for a conversion makes no step, and its group isn't sealed
    none-went : Goes did.Went → FindsConversion o s.machine t Micro
    none-went all u w =
        let its = all w.table (converts-at laws o first set s es threads t fs request store h free room converting new
        w.table w.agrees w.unwritten) in
        absurd (none-moves t u its.0 (scene_of s.machine) (scene_of new.machine) w.table s.machine.rest.monitors
        new.machine.rest.monitors w.agrees its.2.on.event laws.resident its.1 w.holds)

    none-joined : Goes did.Joined → FindsConversion o s.machine t Micro
    none-joined all u w =
        let its = all w.table (converts-at laws o first set s es threads t fs request store h free room converting new
        w.table w.agrees w.unwritten) in
        absurd (none-seals t u its.set (scene_of s.machine) (scene_of its.between) w.table s.machine.rest.monitors
        its.between.rest.monitors w.agrees its.seals.converts.event w.below w.holds)

    went : (result : Conversion) → IsThread result → Goes result → GoesTo t result s new es
        → Comes o first es threads t fs request (went_event result) s new
    went did.Went thread all g = went-comes laws o first set s es threads t fs request store h free room converting new
        g.0 g.2 g.1 (none-went all) cause
    went did.Joined thread all j = joined-comes laws o first set s es threads t fs request store h free room converting
        new j (none-joined all) cause
    went (did.Waits u) thread all g = waits-comes laws o first set s es threads t fs request store h free room converting
        new u thread g all cause
    went (did.Full need left) thread all g =
        full-comes laws o first set s es threads t fs request store h free room converting new need left g cause

    joined-acts : (j : JoinsOnce t s new es)
        → new.history.acts ≡ s.history.acts
        ++ joined laws o first set s es threads t fs request store h free room converting new j ∷ []
    joined-acts j = history-now laws o first set s es threads t fs request store h free room converting new j

    spared : (result : Conversion) → IsThread result → GoesTo t result s new es
        → SparesSink (went_event result) s.history.acts new.history.acts
    spared did.Went thread g = record { acts = inl (ap (λ (x : History). x.acts) g.2.history); fault = tt }
    spared did.Joined thread j = record { acts = inr (_, joined-acts j, tt); fault = tt }
    spared (did.Waits u) thread g = record { acts = inl (ap (λ (x : History). x.acts) g.history); fault = tt }
    spared (did.Full need left) thread g =
        record { acts = inl (ap (λ (x : History). x.acts) g.history); fault = tt }

  pub went-comes-to : (result : Conversion) → IsThread result → Goes result → HasSomePlanned s t store
      → StoreComesTo t store (went_event result) s new
  went-comes-to result thread goes (o, first, set, es, threads, fs, request, h) = record {
    comes = λ o2 first2 set2 es2 threads2 fs2 request2 h2. went o2 first2 set2 es2 threads2 fs2 request2 h2 result
        thread goes (goes es2 (converts-now laws o2 first2 set2 s es2 threads2 t fs2 request2 h2.due));
    sink = spared o first set es threads fs request h result thread
        (goes es (converts-now laws o first set s es threads t fs request h.due));
  }

-- where the image failed
pub failed-comes-of : Laws → (s new : Shared) (t : ℕ) (store : Store) (object : Ref)
    → IsApart s.machine.spaces s.machine.logs t (place_of store.target)
    → ((es : List Entry) → Stands s.machine.spaces es → ConvertsFirst s.machine.spaces es store object)
    → length s.history.acts < s.history.limit
    → doing_of s.machine t ≡ Converting
    → ((es : List Entry) → Converts s es → FailsTo t s new es)
    → (memory_of new.machine).faults ≡ next_count (memory_of s.machine).faults → HasSomePlanned s t store
    → StoreComesTo t store (Over (Met met.ImageFault)) s new
failed-comes-of laws s new t store object apart convert room converting fails cause
    (o, first, set, es, threads, fs, request, h) = record {
      comes = λ o2 first2 set2 es2 threads2 fs2 request2 h2. failed-comes laws o2 first2 set2 s es2 threads2 t fs2
          request2 store h2 (freely-volatile laws o2 first2 set2 s es2 threads2 t fs2 request2 store h2 apart object
          (convert es2 h2.due.running.keeps.heap.whole)) room
          converting new (fails es2 (converts-now laws o2 first2 set2 s es2 threads2 t fs2 request2 h2.due)) cause;
      sink = record {
        acts = inl (ap (λ (x : History). x.acts)
            (fails es (converts-now laws o first set s es threads t fs request h.due)).history);
        fault = tt;
      };
    }
