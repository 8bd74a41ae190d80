-- A region begins.
use Rattle.std.proofs.Common.{◌≡◌, inl, inr, ℕ, ◌<◌, ◌≤◌, ◌^◌, List, [], ◌∷◌, ◌++◌, length, map, Option, refl, sym, ◌∙◌}
use Rattle.std.proofs.Common.{zero, suc}
use Rattle.std.proofs.Common.{ap, subst, arith}
use Rattle.std.specs.Prelude.{All, slice_index_or, slice_get, slice_set}
use Rattle.std.proofs.lemmas.List.{get_or-set_same, length-map}
use Rattle.ap_base.specs.declared.reference.Ref.{Ref}
use Rattle.ap_base.specs.declared.reference.Item.{Item}
use Rattle.run_types.specs.declared.resolved.At.{At}
use Rattle.natives.specs.declared.requests.Request.{Request}
use Rattle.natives.specs.declared.requests.Request.TheVariants as ask
use Rattle.natives.specs.declared.requests.Reply.{Reply}
use Rattle.run_history.specs.declared.act.Op.TheVariants as op
use Rattle.run_history.specs.Recorded.{History, Recorded}
use Rattle.run_history.specs.Worlds.{World, depth_in}
use Rattle.plain_model.specs.Facts.{SetFacts}
use Rattle.shared_objects.specs.declared.threads.ThreadState.{ThreadState}
use Rattle.shared_objects.specs.Worlds.{plain_thread, world_of}
use Rattle.step_forms.specs.declared.stepped.Stepped.{Stepped}
use Rattle.step_forms.specs.declared.stepped.Stepped.TheVariants as stepped
use Rattle.step_forms.specs.Becomes.{IsNoStore}
use Rattle.run_forms.specs.Views.{ThreadFrames}
use Rattle.region_log.specs.declared.entry.Underway.TheVariants.{Nothing as Idle}
use Rattle.region_log.specs.Log.{Log}
use Rattle.region_events.specs.Laws.{MayBegin, one_deeper}
use Rattle.twin_forms.specs.Table.{Entry}
use Rattle.convert_queue.specs.Queues.{Queues, total}
use Rattle.machine_threads.specs.Passed.{Doing}
use Rattle.machine_threads.specs.Passed.{Nothing}
use Rattle.machine_threads.specs.Passed.{Opening, Machine, doing_of, empty_log, known_in, log_of, shown_in}
use Rattle.machine_threads.specs.Passed.{BeginsRegion, DoesRequest, RegionStep, act_in}
use Rattle.machine_threads.specs.RegionEvents as region
use Rattle.plain_model.specs.Ends.{wait_of}
use Rattle.machine_threads.specs.Passed.{IsReady, Begins}
use Rattle.shared_heap.specs.Shared.{Shared}
use Rattle.shared_heap.specs.Regions.{with_log_of}
use Rattle.shared_heap.specs.Requests.{StepsTo}
use Rattle.machine.specs.declared.events.Event.TheVariants.{Did}
use Rattle.machine.specs.Ended.{Serves, event_of}
use Rattle.machine.specs.Events.{Comes, SparesSink}
use Rattle.machine.specs.Laws.{Laws}
use Rattle.machine.specs.Running.{HadNoFault, IsDue}
use Rattle.machine.proofs.Awaiting.{awaits-nothing}
use Rattle.machine.proofs.Answering.{IsDueFor, spared-serves}
use Rattle.machine.proofs.Bound.{act-measured}
use Rattle.machine.proofs.Faults.{none-more}
use Rattle.machine.proofs.Leaving.{logs-idle, few, happened, asked, Kept, as-answered, answered-on}
use Rattle.machine.proofs.Marks.{IsRegional, begins, marks, regional-whole}
use Rattle.machine.proofs.Memory.{does-stay}
use Rattle.machine.proofs.Stepping
use Rattle.machine_threads.specs.Happening as event
use Rattle.frames.specs.Turns.{answer, turn}
use Rattle.machine.proofs.Noting.{noted-asks, noted-waits}
use Rattle.machine.proofs.Threads.{as-many-threads}
use Rattle.machine_threads.specs.Keeping.{LagsByItsStore}
use Rattle.run_forms.specs.Laws.{answered_threads}
use Rattle.run_forms.specs.Standing.{setting_of}
use Rattle.shared_heap.specs.Notes.{ThreadNotes}

-- no region is deeper than there were acts
depth-most : (threads : List ThreadState) (t n : ℕ) → All (λ (x : ThreadState). x.depth ≤ n) threads
    → depth_in (slice_get (map plain_thread threads) t) ≤ n
depth-most [] t n all = omega arith
depth-most (thread ∷ threads) zero n all = all 0 thread (omega arith)
depth-most (thread ∷ threads) (suc t) n all = depth-most threads t n (λ i x below. all (suc i) x (omega (arith, below)))

module _ (laws : Laws) (o : Opening) (first : ℕ) (set : SetFacts) (s : Shared) (es : List Entry)
    (threads : List ThreadFrames) (t : ℕ) (fs : ThreadFrames) (request : Request Ref Item) (due : IsDue o first set s es threads t fs request)
    (room : length s.history.acts < s.history.limit) (counted : s.history.limit < 2 ^ 32)
    (ready : IsReady (doing_of s.machine t)) (idle : (log_of s.machine t).underway ≡ Idle) (from : At)
    (is_begin : request ≡ ask.Begin from) (between : Shared) (result : Stepped)
    (x : StepsTo set t request result s between) (none : IsNoStore result) where
  is-did : (r : Reply Ref Item) × (result ≡ stepped.Did op.Begin r)
  is-did = marks o.launch.set t request (shown_in s.machine) s.machine.rest (shown_in between.machine)
      between.machine.rest op.Begin tt
      (λ roots taken. begins o.launch.set (world_of roots (shown_in s.machine) s.machine.rest) t taken
      (shown_in s.machine).number request from is_begin) result
      (Stepping.is-step laws o first set s es threads t fs request due room ready between result x none)

  abbrev reply : Reply Ref Item
  reply = is-did.0

  steps : StepsTo set t request (stepped.Did op.Begin reply) s between
  steps = subst (λ y. StepsTo set t request y s between) is-did.1 x

  abbrev opened : Shared
  opened = with_log_of between t (one_deeper (log_of between.machine t))

  nothing : doing_of s.machine t ≡ Nothing
  nothing = Stepping.nothing laws o first set s es threads t fs request due room ready between result x none

  does : DoesRequest o s.machine opened.machine es t request op.Begin reply
  does =
      let d = Stepping.does laws o first set s es threads t fs request due room ready between op.Begin reply steps tt in
      record {
        thread = d.thread;
        fit = d.fit;
        doing = d.doing;
        step = d.step;
        heap = d.heap;
        sound = d.sound;
        free = d.free;
        acts = d.acts;
      }

  same-logs : between.machine.logs ≡ s.machine.logs
  same-logs = ap (λ (m : Machine). m.logs) x.machine

  may : MayBegin (known_in o s.machine) (log_of s.machine t)
  may = record {
    idle = idle;
    room = (let most = depth-most s.machine.rest.threads t (length s.machine.acts)
        due.running.keeps.world.counts.threads in
        let is = Stepping.depth-is laws o first set s es threads t fs request due room ready between in
        let same = ap length due.running.acts in
        omega (arith, most, is, same, room, counted));
    there = (let own = (due.running.keeps.asked.regions.each t due.thread).thread in
        let many = ap (λ (w : World). length w.threads) due.running.keeps.world.world
        ∙ length-map s.machine.rest.threads plain_thread in
        let thread = (asked laws o first set s es threads t fs request due ready).thread in
        omega (arith, own, many, thread));
  }

  region-begins : BeginsRegion o s.machine opened.machine es t request reply
  region-begins = record {
    does = does;
    may = may;
    logs = ap (λ (logs : List Log). slice_set logs t (one_deeper (slice_index_or logs t (empty_log t)))) same-logs;
    queue = ap (λ (m : Machine). m.queue) x.machine;
    doing = ap (λ (m : Machine). m.doing) x.machine;
  }

  abbrev region-step : RegionStep o t s.machine es opened.machine
  region-step = region.begun opened.machine request reply region-begins

  abbrev act : Recorded
  act = act_in s.machine t op.Begin []

  new-acts : opened.history.acts ≡ s.history.acts ++ act ∷ []
  new-acts = Stepping.did-acts laws o first set s es threads t fs request due room ready between op.Begin reply steps tt

  nothing-now : doing_of opened.machine t ≡ Nothing
  nothing-now = ap (λ (ds : List Doing). slice_index_or ds t Nothing) region-begins.doing ∙ nothing

  log-idle : (log_of opened.machine t).underway ≡ Idle
  log-idle = ap (λ (log : Log). log.underway)
      (get_or-set_same between.machine.logs t (one_deeper (log_of between.machine t)) (empty_log t)
      (let many = due.running.keeps.asked.regions.many in let same = ap length same-logs in
      let below = due.thread in omega (arith, many, same, below)))
      ∙ ap (λ (logs : List Log). (slice_index_or logs t (empty_log t)).underway) same-logs ∙ idle

  abbrev answer_now : ThreadFrames
  answer_now = answer (setting_of o.launch) (turn (setting_of o.launch) fs).frames reply

  same-many : length opened.machine.rest.threads ≡ length s.machine.rest.threads
  same-many = as-many-threads o s.machine opened.machine op.Begin reply es t request does refl

  no-begun : (ope : Opening) (m' : Machine) (begun : List ThreadFrames) → Begins ope m' op.Begin begun → begun ≡ []
  no-begun ope m' [] begins = refl
  no-begun ope m' (b ∷ bs) begins = absurd (let no = begins in cc)

  opened-keeps : Kept o first t s.machine opened.machine es es threads (answered_threads o.launch threads t fs reply [])
  opened-keeps = happened laws o first set s es threads t fs request due (event.region _ region-step) [] due.asks tt tt
      (as-answered laws o first set s es threads t fs request due opened.machine answer_now [] (record {
        lags = subst (λ d. LagsByItsStore o.launch d answer_now) (sym nothing-now) tt;
        logs = logs-idle o.launch opened.machine t answer_now log-idle;
      }))

  opened-comes : Comes o first es threads t fs request (Did reply) s opened
  opened-comes =
      let stays = does-stay s.machine.spaces between.machine.spaces es op.Begin reply
      due.running.keeps.heap.whole steps.heap in record {
        goes = answered-on laws o first set s es threads t fs request due opened es reply act opened-keeps does.acts
            (λ begun begins. no-begun o opened.machine begun begins) refl same-many does.free
            (ap (λ (q : Queues). total q.queues) region-begins.queue)
            (sym (ap (λ (m : Machine). m.acts) x.machine)) (ap (λ (h : History). h.limit) steps.history)
            (ap (λ (h : History). h.named) steps.history ∙ due.running.unnamed)
            (ap (λ (h : History). h.room) steps.history) x.lines stays.numbers
            (subst (HadNoFault o.launch) (sym does.acts)
            (none-more o.launch s.machine.acts act due.running.unfaulted (λ lines.
            laws.ends.steps_meet o s.machine es threads due.running.keeps due.running.plain lines t fs
            request op.Begin reply (shown_in between.machine) between.machine.rest ready due.asks
            (Stepping.is laws o first set s es threads t fs request due room ready between op.Begin reply steps tt)
            tt (few laws o first set s es threads t fs request due room)))) nothing-now;
        acts = record { act = act; thread = refl; acts = new-acts };
        calls = inl stays.image;
        cause = stays.image.faults;
        answers = regional-whole request (subst IsRegional (sym is_begin) tt);
        finds = laws.threads.wait o s.machine es threads due.running.keeps due.running.plain t fs request ready due.asks
            ∙ ap wait_of (begins o.launch.set (known_in o s.machine).world t 1 (shown_in s.machine).number request from
            is_begin);
        awaits = awaits-nothing o s.machine t nothing (Did reply);
        numbers = stays.numbers;
        quiet = λ micro same. absurd (let no = micro in cc);
        waits = λ on no. absurd (let e = no in cc);
        work = act-measured s opened (opened-keeps.keeps.heap.size ∙ sym due.running.keeps.heap.size) does.free
            (Did reply) act new-acts (let same = laws.work.guards.begun o s.machine es due.running.keeps
            due.running.unwritten opened.machine t request reply region-begins opened-keeps.keeps in
            omega (arith, same));
        asks = ap (λ (n : ThreadNotes). n.asks) steps.notes ∙ noted-asks request op.Begin reply s.notes;
        noted = ap (λ (n : ThreadNotes). n.waits) steps.notes ∙ noted-waits request op.Begin reply s.notes;
      }

  pub begun-comes : (new : Shared) → new ≡ opened → Comes o first es threads t fs request (event_of request result) s new
  begun-comes new is = subst (λ y. Comes o first es threads t fs request (event_of request y) s new) (sym is-did.1)
      (subst (Comes o first es threads t fs request (Did reply) s) (sym is) opened-comes)

  pub begun-spares : (new : Shared) → new ≡ opened
      → SparesSink (event_of request result) s.history.acts new.history.acts
  begun-spares new is = subst (λ y. SparesSink (event_of request y) s.history.acts new.history.acts) (sym is-did.1)
      (record {
        acts = inr (act, ap (λ (y : Shared). y.history.acts) is ∙ new-acts, tt);
        fault = tt;
      })

-- ---- of each run of the set

module _ (laws : Laws) (set : SetFacts) (s between new : Shared) (t : ℕ) (request : Request Ref Item)
    (room : length s.history.acts < s.history.limit) (counted : s.history.limit < 2 ^ 32)
    (ready : IsReady (doing_of s.machine t)) (idle : (log_of s.machine t).underway ≡ Idle) (from : At)
    (is_begin : request ≡ ask.Begin from) (result : Stepped) (x : StepsTo set t request result s between)
    (none : IsNoStore result) (opens : new ≡ with_log_of between t (one_deeper (log_of between.machine t))) where
  pub begun-serves : IsDueFor set s t request → (takes : ℕ → ℕ → Option ℕ) (taken : Option (List ℕ)) (faults : ℕ)
      → Serves set t request (event_of request result) s new takes takes taken taken faults faults
  begun-serves (o, first, es, threads, fs, due) = spared-serves set s new t request (event_of request result)
      (λ o2 first2 es2 threads2 fs2 due2. begun-comes laws o2 first2 set s es2 threads2 t fs2 request due2 room counted ready idle
      from is_begin between result x none new opens)
      (begun-spares laws o first set s es threads t fs request due room counted ready idle from is_begin between result
      x none new opens)
