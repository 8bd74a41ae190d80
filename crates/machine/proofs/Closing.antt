-- A region ends, a part with each call, and at last by its act.
use Rattle.std.proofs.Common.{◌≡◌, ◌⊎◌, inl, inr, ℕ, ◌-◌, ◌<◌, ◌≤◌, ◌^◌, List, [], ◌∷◌, ◌++◌, length, Option, Some, None}
use Rattle.std.proofs.Common.{refl, sym, ◌∙◌, ap, subst, arith}
use Rattle.std.specs.Prelude.{slice_index_or}
use Rattle.ap_base.specs.Causes.{next_count}
use Rattle.ap_base.specs.declared.reference.Ref.{Ref}
use Rattle.ap_base.specs.declared.reference.Item.{Item}
use Rattle.run_types.specs.declared.fault.StepFault.TheVariants as met
use Rattle.run_types.specs.declared.resolved.At.{At}
use Rattle.natives.specs.declared.requests.Request.{Request}
use Rattle.natives.specs.declared.requests.Request.TheVariants as ask
use Rattle.natives.specs.declared.requests.Reply.{Reply}
use Rattle.line_memory.specs.Memory.{Memory, OneCall, SameImage}
use Rattle.run_history.specs.declared.act.Op.TheVariants as op
use Rattle.run_history.specs.Recorded.{History, Recorded, with_act}
use Rattle.run_history.specs.Worlds.{World, depth_of}
use Rattle.plain_model.specs.Facts.{SetFacts, classes_of}
use Rattle.plain_model.specs.Steps.{step}
use Rattle.shared_objects.specs.Plain.{plain_request}
use Rattle.shared_objects.specs.Worlds.{world_of}
use Rattle.step_forms.specs.declared.stepped.Stepped.{Stepped}
use Rattle.step_forms.specs.declared.stepped.Stepped.TheVariants as stepped
use Rattle.step_forms.specs.Becomes.{IsNoStore, given}
use Rattle.step_forms.specs.Follows.{Agrees, IsHeapOf, IsStep, stored_as}
use Rattle.run_forms.specs.Views.{ThreadFrames}
use Rattle.region_log.specs.declared.entry.EndStage.{EndStage}
use Rattle.region_log.specs.declared.entry.Underway.{Underway}
use Rattle.region_log.specs.declared.entry.Underway.TheVariants.{Nothing as Idle, Ending}
use Rattle.region_log.specs.Log.{Log}
use Rattle.twin_forms.specs.Sights.{Twin}
use Rattle.twin_forms.specs.Table.{Entry}
use Rattle.convert_queue.specs.Queues.{Queues, total}
use Rattle.two_spaces.specs.Seen.{Spaces}
use Rattle.two_spaces.specs.Whole.{IsWhole}
use Rattle.monitors.specs.Indexed.{AreSound}
use Rattle.machine_threads.specs.Passed.{Doing}
use Rattle.machine_threads.specs.Passed.{Nothing, Converting}
use Rattle.machine_threads.specs.Passed.{Opening, Machine, doing_of, empty_log, known_in, layout_in, log_of, memory_of}
use Rattle.machine_threads.specs.Passed.{shown_in}
use Rattle.machine_threads.specs.Passed.{IsDoing}
use Rattle.machine_threads.specs.Passed.{AsksEnd, CallsEnd, ClosesRegion, DoesRequest, EndsPart, EndsByAct, IsFree, LeavesLog}
use Rattle.machine_threads.specs.Passed.{RegionStep, act_in, with_closing, with_logged}
use Rattle.machine_threads.specs.RegionEvents as region
use Rattle.plain_model.specs.Ends.{wait_of}
use Rattle.machine_threads.specs.Stuck.{plain_waits}
use Rattle.machine_threads.specs.Passed.{KeepsShared}
use Rattle.machine_threads.proofs.Passed.{left_goes_on}
use Rattle.machine_threads.specs.Passed.{IsReady, Begins}
use Rattle.shared_heap.specs.Shared.{Shared}
use Rattle.shared_heap.specs.Regions.{ClosesTo, EndingFailsTo, EndsOnTo, IsEndCall, LeavesTo}
use Rattle.shared_heap.specs.Requests.{MayRequest, StepsTo}
use Rattle.machine.specs.declared.events.Event.{Event}
use Rattle.machine.specs.declared.events.Event.TheVariants.{Did, Micro, Over}
use Rattle.machine.specs.declared.events.Halt.TheVariants.{Met}
use Rattle.machine.specs.Ended.{Serves, event_of}
use Rattle.machine.specs.Events.{Comes, SparesSink}
use Rattle.machine.specs.Laws.{Laws}
use Rattle.machine.specs.Running.{HadNoFault, IsDue}
use Rattle.machine.proofs.Awaiting.{awaits-nothing}
use Rattle.machine.proofs.Answering.{IsDueFor, spared-serves}
use Rattle.machine.proofs.Basics.{not-longer, shared-is, some-same}
use Rattle.machine.proofs.Bound.{act-measured, quiet-measured}
use Rattle.machine.proofs.Faults.{none-more}
use Rattle.machine.proofs.Given.{counts}
use Rattle.machine.proofs.Leaving.{asked, logs-idle, few, fits, lives, happened, as-they-were, stays-on, Kept, as-answered}
use Rattle.machine.proofs.Logging.{log-now}
use Rattle.machine.proofs.Marks.{IsRegional, end-stores-none, ends, marks, regional-fits, regional-gives, regional-known}
use Rattle.machine.proofs.Marks.{regional-whole}
use Rattle.machine.proofs.Memory.{same-image}
use Rattle.machine_threads.specs.Happening as event
use Rattle.frames.specs.Turns.{answer, turn}
use Rattle.graph_model.specs.declared.types.Value.TheVariants.{Obj as Object}
use Rattle.machine.proofs.Leaving.{answered-on}
use Rattle.machine.proofs.Noting.{noted-asks, noted-waits}
use Rattle.machine.proofs.Threads.{as-many-threads}
use Rattle.machine_threads.specs.Keeping.{KeepsThread, LagsByItsLog, LagsByItsStore}
use Rattle.plain_model.specs.Requests.{PlainRequest}
use Rattle.run_forms.specs.Laws.{answered_threads}
use Rattle.run_forms.specs.Standing.{setting_of}
use Rattle.shared_heap.specs.Notes.{ThreadNotes}

module _ (laws : Laws) (o : Opening) (first : ℕ) (set : SetFacts) (s : Shared) (es : List Entry)
    (threads : List ThreadFrames) (t : ℕ) (fs : ThreadFrames) (request : Request Ref Item) (due : IsDue o first set s es threads t fs request)
    (room : length s.history.acts < s.history.limit) (ready : IsReady (doing_of s.machine t))
    (is_open : 0 < (log_of s.machine t).depth) (from : At) (is_end : request ≡ ask.End from) where
  -- ---- what the thread asks

  regional : IsRegional request
  regional = subst IsRegional (sym is_end) tt

  -- the acts have opened as many regions as the log counts, whatever the heap shows
  open-now : 0 < depth_of (known_in o s.machine).world t
  open-now =
      let own = due.running.keeps.asked.regions.each t due.thread in
      let is = own.guards.depth ∙ ap (depth_of (known_in o s.machine).world) own.thread in
      omega (arith, is_open, is)

  -- a thread that converts asks a store
  not-converting : doing_of s.machine t ≡ Converting → ⊥
  not-converting converting =
      let doing = subst (IsDoing (known_in o s.machine) (layout_in o es) t) converting
      (due.running.keeps.asked.doing t) in
      let p = doing.0.0 in
      let its = (due.running.all.each t fs due.asks.frames).about p doing.0.1 in
      let same : its.0 ≡ plain_request (shown_in s.machine).number request
      = some-same its.0 _ (sym its.2 ∙ (asked laws o first set s es threads t fs request due ready).plain) in
      end-stores-none o.launch.set (known_in o s.machine).world t 1 (shown_in s.machine).number request from is_end
      open-now p.place (Object its.1)
      (subst (λ (q : PlainRequest). step o.launch.set (known_in o s.machine).world t 1 q
      ≡ stored_as p.place (Object its.1)) same its.4.does)

  nothing : doing_of s.machine t ≡ Nothing
  nothing = elim ready [ inl is ↦ is | inr converting ↦ absurd (not-converting converting) ]

  own : KeepsThread o s.machine es t fs
  own = due.running.all.each t fs due.asks.frames

  -- an end waits for nothing in the plain world
  waits-none : plain_waits o s.machine t ≡ None
  waits-none = laws.threads.wait o s.machine es threads due.running.keeps due.running.plain t fs request ready due.asks
      ∙ ap wait_of (ends o.launch.set (known_in o s.machine).world t 1 (shown_in s.machine).number request from is_end
      open-now)

  asks-end : AsksEnd o s.machine t request
  asks-end = record {
    fit = fits laws o first set s es threads t fs request due ready;
    is_end = (from, is_end);
    doing = nothing;
    is_open = is_open;
  }

  -- so while the end is under way, the turn asks that
  lags-by-end : (twin : Twin) (log : Log) (stage : EndStage) → log.underway ≡ Ending stage
      → LagsByItsLog o.launch (log_of (with_logged s.machine twin t log) t).underway fs
  lags-by-end twin log stage is = subst (λ (u : Underway). LagsByItsLog o.launch u fs)
      (sym (ap (λ (now : Log). now.underway)
      (log-now s.machine twin t log due.thread due.running.keeps.asked.regions.many) ∙ is))
      (from, due.asks.asks ∙ ap (λ (q : Request Ref Item). Some q) is_end)

  calls-end : (twin : Twin) (log : Log) → IsEndCall s.machine twin t log → CallsEnd o s.machine twin t request log
  calls-end twin log call = record {
    thread = due.thread;
    asks = asks-end;
    call = call.call;
    only = call.only;
    known = call.known;
  }

  -- ---- a part

  module _ (new : Shared) (l : EndsOnTo t s new) where
    abbrev part_now : Shared
    part_now = record {
      machine = with_logged s.machine l.twin t l.log;
      history = s.history;
      lines = s.lines;
      notes = s.notes;
    }

    part-is : new ≡ part_now
    part-is = shared-is new _ _ _ _ l.left.machine l.left.history l.left.lines l.left.notes

    part : EndsPart o s.machine l.twin t request l.log
    part = record {
      calls = calls-end l.twin l.log l.call;
      went = elim l.made [ inl touches ↦ inl touches | inr on ↦ inr (inl on) ];
    }

    part-lags : LagsByItsLog o.launch (log_of part_now.machine t).underway fs
    part-lags = elim l.made [
      | inl touches ↦ lags-by-end l.twin l.log _ (ap (λ (log : Log). log.underway) touches.log)
      | inr on ↦ lags-by-end l.twin l.log _ (ap (λ (log : Log). log.underway) on.log)
    ]

    abbrev part-step : RegionStep o t s.machine es part_now.machine
    part-step = region.ending l.twin request l.log part

    part-comes : l.twin.memory.faults ≡ (memory_of s.machine).faults → Comes o first es threads t fs request Micro s part_now
    part-comes cause =
        let now = happened laws o first set s es threads t fs request due (event.region _ part-step) [] due.asks tt tt
        (as-they-were laws o first set s es threads t fs request due part_now.machine
        (record { lags = own.lags; logs = part-lags })) in record {
          goes = stays-on laws o first set s es threads t fs request due part_now es now refl refl refl due.running.acts
              refl due.running.unnamed refl refl refl due.running.unfaulted;
          acts = inl refl;
          calls = inr l.call.call.call;
          cause = cause;
          answers = tt;
          finds = λ logs. waits-none;
          awaits = awaits-nothing o s.machine t nothing Micro;
          numbers = refl;
          quiet = λ micro same. elim l.made [
            | inl touches ↦ absurd (laws.ending.untouched o s.machine es due.running.keeps
                due.running.unwritten l.twin t request l.log part touches)
            | inr on ↦ (let less = laws.ending.made o s.machine es due.running.keeps due.running.unwritten
                l.twin t request l.log part on in omega (arith, less))
          ];
          waits = λ on no. absurd (let e = no in cc);
          work = elim l.made [
            | inl touches ↦ absurd (laws.ending.untouched o s.machine es due.running.keeps
                due.running.unwritten l.twin t request l.log part touches)
            | inr on ↦ quiet-measured s part_now l.call.call.steps.size refl (laws.ending.made o s.machine es
                due.running.keeps due.running.unwritten l.twin t request l.log part on)
          ];
          asks = refl;
          noted = refl;
        }

    pub ends-on : (memory_of new.machine).faults ≡ (memory_of s.machine).faults
        → Comes o first es threads t fs request Micro s new
    ends-on cause = subst (Comes o first es threads t fs request Micro s) (sym part-is)
        (part-comes (subst (λ (x : Shared). (memory_of x.machine).faults ≡ (memory_of s.machine).faults)
        part-is cause))

  -- ---- the fence behind all that was logged

  module _ (new : Shared) (l : ClosesTo t s new) where
    abbrev act : Recorded
    act = act_in (with_logged s.machine l.twin t l.log) t op.Closing []

    abbrev closed_now : Shared
    closed_now = record {
      machine = with_closing s.machine l.twin t l.log;
      history = with_act s.history act.act;
      lines = s.lines;
      notes = s.notes;
    }

    closed-is : new ≡ closed_now
    closed-is = shared-is new _ _ _ _ l.machine l.history l.lines l.notes

    closes : ClosesRegion o s.machine l.twin t request l.log
    closes = record { calls = calls-end l.twin l.log l.call; fences = l.fences }

    abbrev closes-step : RegionStep o t s.machine es closed_now.machine
    closes-step = region.closing l.twin request l.log closes

    closed-comes : l.twin.memory.faults ≡ (memory_of s.machine).faults
        → Comes o first es threads t fs request Micro s closed_now
    closed-comes cause =
        let now = happened laws o first set s es threads t fs request due (event.region _ closes-step) [] due.asks tt tt
        (as-they-were laws o first set s es threads t fs request due closed_now.machine
        (record {
          lags = own.lags;
          logs = lags-by-end l.twin l.log _ (ap (λ (log : Log). log.underway) l.fences.log);
        })) in record {
          goes = stays-on laws o first set s es threads t fs request due closed_now es now refl refl refl
              (ap (λ (xs : List Recorded). xs ++ act ∷ []) due.running.acts) refl due.running.unnamed refl refl refl
              (none-more o.launch s.machine.acts act due.running.unfaulted (λ lines.
              laws.ends.ends_meet o s.machine es threads due.running.keeps due.running.plain lines t fs
              request due.asks asks-end (few laws o first set s es threads t fs request due room)));
          acts = inr (record { act = act; thread = refl; acts = refl });
          calls = inr l.call.call.call;
          cause = cause;
          answers = tt;
          finds = λ logs. waits-none;
          awaits = awaits-nothing o s.machine t nothing Micro;
          numbers = refl;
          quiet = λ micro same. not-longer s.history.acts act same;
          waits = λ on no. absurd (let e = no in cc);
          work = act-measured s closed_now l.call.call.steps.size refl Micro act refl (let less = laws.ending.closed o
              s.machine es due.running.keeps due.running.unwritten l.twin t request l.log closes in omega (arith, less));
          asks = refl;
          noted = refl;
        }

    pub closed : (memory_of new.machine).faults ≡ (memory_of s.machine).faults
        → Comes o first es threads t fs request Micro s new
    closed cause = subst (Comes o first es threads t fs request Micro s) (sym closed-is)
        (closed-comes (subst (λ (x : Shared). (memory_of x.machine).faults ≡ (memory_of s.machine).faults)
        closed-is cause))

  -- ---- the image failed

  module _ (new : Shared) (f : EndingFailsTo t s new) where
    abbrev failed_now : Shared
    failed_now = record {
      machine = with_logged s.machine f.twin t f.log;
      history = s.history;
      lines = s.lines;
      notes = s.notes;
    }

    failed-is : new ≡ failed_now
    failed-is = shared-is new _ _ _ _ f.left.machine f.left.history f.left.lines f.left.notes

    failed-part : EndsPart o s.machine f.twin t request f.log
    failed-part = record { calls = calls-end f.twin f.log f.call; went = inr (inr f.fails) }

    failed-comes : f.twin.memory.faults ≡ next_count (memory_of s.machine).faults
        → Comes o first es threads t fs request (Over (Met met.ImageFault)) s failed_now
    failed-comes cause =
        let now = happened laws o first set s es threads t fs request due
        (event.region _ (region.ending f.twin request f.log failed-part)) [] due.asks tt tt
        (as-they-were laws o first set s es threads t fs request due failed_now.machine
        (record {
          lags = own.lags;
          logs = lags-by-end f.twin f.log _ (ap (λ (log : Log). log.underway) f.fails.log);
        })) in record {
          goes = record {
            after = es;
            keeps = now.keeps;
            plain = now.plain;
            history = refl;
            acts = refl;
            ends = laws.ends.image o s.machine es threads due.running.keeps due.running.plain
                (f.twin.memory.size - first) t fs (lives laws o first set s es threads t fs request due)
                (few laws o first set s es threads t fs request due room);
          };
          acts = refl;
          calls = inr f.call.call.call;
          cause = cause;
          answers = tt;
          finds = tt;
          awaits = λ u w. tt;
          numbers = refl;
          quiet = λ micro same. absurd (let no = micro in cc);
          waits = λ on no. absurd (let e = no in cc);
          work = tt;
          asks = refl;
          noted = refl;
        }

    pub ending-failed : (memory_of new.machine).faults ≡ next_count (memory_of s.machine).faults
        → Comes o first es threads t fs request (Over (Met met.ImageFault)) s new
    ending-failed cause = subst (Comes o first es threads t fs request (Over (Met met.ImageFault)) s) (sym failed-is)
        (failed-comes (subst (λ (x : Shared). (memory_of x.machine).faults ≡ next_count (memory_of s.machine).faults)
        failed-is cause))

  -- ---- the log is left

  module _ (between : Shared) (l : LeavesTo t s between) where
    leaves : LeavesLog o s.machine l.twin t request l.log
    leaves = elim l.leaves [
      | inl emptied ↦ region.emptied l.log (record {
        calls = calls-end l.twin l.log emptied.call;
        empties = emptied.empties;
      })
      | inr left ↦ subst (LeavesLog o s.machine l.twin t request) (sym left.is)
          (region.at_once left.same asks-end left.idle left.at_once)
    ]

    -- nothing is under way in it then
    log-idle : l.log.underway ≡ Idle
    log-idle = elim l.leaves [
      | inl emptied ↦ ap (λ (log : Log). log.underway) emptied.empties.log
      | inr left ↦ ap (λ (log : Log). log.underway) left.is ∙ left.idle
    ]

    abbrev left_machine : Machine
    left_machine = with_logged s.machine l.twin t l.log

    -- heap and world are as they were
    pub left-keeps : KeepsShared o left_machine es
    left-keeps = (left_goes_on o s.machine es due.running.keeps l.twin t request leaves).kept

    same-size : (memory_of left_machine).size ≡ (memory_of s.machine).size
    same-size = left-keeps.0.size ∙ sym due.running.keeps.heap.size

    one-or-none : SameImage (memory_of s.machine) l.twin.memory ⊎ OneCall (memory_of s.machine) l.twin.memory
    one-or-none = elim l.leaves [
      | inl emptied ↦ inr emptied.call.call.call
      | inr left ↦ inl (same-image (memory_of s.machine) l.twin.memory
          (ap (λ (x : Twin). x.memory) left.same))
    ]

    -- ---- and the step of the request is taken

    pub may-end : MayRequest set left_machine t request
    may-end = record {
      thread = (asked laws o first set s es threads t fs request due ready).thread;
      fit = regional-fits set (world_of [] (shown_in left_machine) left_machine.rest) t
          (shown_in left_machine).number request regional;
      known = regional-known (shown_in left_machine).number request regional;
    }

    pub left-agrees : length s.history.acts < 2 ^ 32 → Agrees set (shown_in left_machine) left_machine.rest
    left-agrees few32 = record {
      heap = subst (λ (x : SetFacts). IsHeapOf x (shown_in left_machine)) (sym due.facts) left-keeps.1.heap;
      classes = left-keeps.1.classes ∙ ap (λ (x : SetFacts). length (classes_of x)) (sym due.facts);
      monitors = left-keeps.1.monitors;
      counts = counts o s es t due.running.keeps
          (let same = ap length due.running.acts in omega (arith, few32, same));
    }

    module _ (new : Shared) (result : Stepped) (x : StepsTo set t request result between new)
        (none : IsNoStore result) where
      from-left : StepsTo set t request result (record between { machine = left_machine }) new
      from-left = subst (λ (m : Machine). StepsTo set t request result (record between { machine = m }) new)
          l.left.machine x

      open-left : 0 < depth_of (world_of [] (shown_in left_machine) left_machine.rest) t
      open-left =
          let own = due.running.keeps.asked.regions.each t due.thread in
          let is = own.guards.depth ∙ ap (depth_of (known_in o s.machine).world) own.thread
          ∙ ap (λ (w : World). depth_of w t) due.running.keeps.world.world in
          omega (arith, is_open, is)

      is-did : (r : Reply Ref Item) × (result ≡ stepped.Did op.End r)
      is-did = marks set t request (shown_in left_machine) left_machine.rest (shown_in new.machine)
          new.machine.rest op.End tt
          (λ roots taken. ends set (world_of roots (shown_in left_machine) left_machine.rest) t taken
          (shown_in left_machine).number request from is_end open-left) result from-left.step

      abbrev reply : Reply Ref Item
      reply = is-did.0

      steps : StepsTo set t request (stepped.Did op.End reply) (record between { machine = left_machine }) new
      steps = subst (λ y. StepsTo set t request y (record between { machine = left_machine }) new) is-did.1
          from-left

      abbrev end_act : Recorded
      end_act = act_in left_machine t op.End []

      new-history : new.history.acts ≡ s.history.acts ++ end_act ∷ []
      new-history = ap (λ (h : History). h.acts) steps.history
          ∙ ap (λ (h : History). h.acts ++ end_act ∷ []) l.left.history

      machine-acts : new.machine.acts ≡ s.machine.acts ++ end_act ∷ []
      machine-acts = ap (λ (m : Machine). m.acts) steps.machine ∙ new-history
          ∙ ap (λ (xs : List Recorded). xs ++ end_act ∷ []) due.running.acts

      does : DoesRequest o left_machine new.machine es t request op.End reply
      does = record {
        thread = due.thread;
        fit = record {
          thread = (asked laws o first set s es threads t fs request due ready).thread;
          few = (let many = due.running.many in let most = due.running.few in omega (arith, many, most));
          fit = regional-fits o.launch.set (world_of [] (shown_in left_machine) left_machine.rest) t
              (shown_in left_machine).number request regional;
          known = regional-known (shown_in left_machine).number request regional;
        };
        doing = subst (IsFree o left_machine es t) (sym nothing) tt;
        step = subst (λ (y : SetFacts). IsStep y t request (shown_in left_machine) left_machine.rest
            (stepped.Did op.End reply) (shown_in new.machine) new.machine.rest) due.facts steps.step;
        heap = steps.heap;
        sound = steps.sound;
        free = ap (λ (m : Machine). m.free) steps.machine;
        acts = machine-acts;
      }

      region-ends : EndsByAct o s.machine new.machine es t request reply
      region-ends = record {
        twin = l.twin;
        log = l.log;
        leaves = leaves;
        does = does;
        logs = ap (λ (m : Machine). m.logs) steps.machine;
        queue = ap (λ (m : Machine). m.queue) steps.machine;
        doing = ap (λ (m : Machine). m.doing) steps.machine;
      }

      abbrev region-step : RegionStep o t s.machine es new.machine
      region-step = region.ended new.machine request reply region-ends

      nothing-now : doing_of new.machine t ≡ Nothing
      nothing-now = ap (λ (ds : List Doing). slice_index_or ds t Nothing) region-ends.doing ∙ nothing

      idle-now : (log_of new.machine t).underway ≡ Idle
      idle-now = ap (λ (logs : List Log). (slice_index_or logs t (empty_log t)).underway)
          (ap (λ (m : Machine). m.logs) steps.machine)
          ∙ ap (λ (log : Log). log.underway)
          (log-now s.machine l.twin t l.log due.thread due.running.keeps.asked.regions.many) ∙ log-idle

      same-many : length new.machine.rest.threads ≡ length s.machine.rest.threads
      same-many = as-many-threads o left_machine new.machine op.End reply es t request does refl

      -- the step leaves the heap
      same-spaces : new.machine.spaces ≡ left_machine.spaces
      same-spaces = steps.heap

      same-memory : memory_of new.machine ≡ l.twin.memory
      same-memory = ap (λ (y : Spaces). y.twin.memory) same-spaces

      abbrev answer_now : ThreadFrames
      answer_now = answer (setting_of o.launch) (turn (setting_of o.launch) fs).frames reply

      no-begun : (ope : Opening) (m' : Machine) (begun : List ThreadFrames) → Begins ope m' op.End begun → begun ≡ []
      no-begun ope m' [] begins = refl
      no-begun ope m' (b ∷ bs) begins = absurd (let no = begins in cc)

      ended-keeps : Kept o first t s.machine new.machine es es threads
          (answered_threads o.launch threads t fs reply [])
      ended-keeps = happened laws o first set s es threads t fs request due (event.region _ region-step) [] due.asks tt tt
          (as-answered laws o first set s es threads t fs request due new.machine answer_now [] (record {
            lags = subst (λ d. LagsByItsStore o.launch d answer_now) (sym nothing-now) tt;
            logs = logs-idle o.launch new.machine t answer_now idle-now;
          }))

      did-comes : (memory_of between.machine).faults ≡ (memory_of s.machine).faults
          → Comes o first es threads t fs request (Did reply) s new
      did-comes cause = record {
        goes = answered-on laws o first set s es threads t fs request due new es reply end_act ended-keeps machine-acts
            (λ begun begins. no-begun o new.machine begun begins) refl same-many does.free
            (ap (λ (q : Queues). total q.queues) region-ends.queue)
            (sym (ap (λ (m : Machine). m.acts) steps.machine))
            (ap (λ (h : History). h.limit) steps.history ∙ ap (λ (h : History). h.limit) l.left.history)
            (ap (λ (h : History). h.named) steps.history ∙ ap (λ (h : History). h.named) l.left.history
            ∙ due.running.unnamed)
            (ap (λ (h : History). h.room) steps.history ∙ ap (λ (h : History). h.room) l.left.history)
            (steps.lines ∙ l.left.lines) (ap (λ (y : Spaces). y.numbers) same-spaces)
            (subst (HadNoFault o.launch) (sym machine-acts)
            (none-more o.launch s.machine.acts end_act due.running.unfaulted (λ lines.
            laws.ends.ends_meet o s.machine es threads due.running.keeps due.running.plain lines t fs
            request due.asks asks-end (few laws o first set s es threads t fs request due room)))) nothing-now;
        acts = record { act = end_act; thread = refl; acts = new-history };
        calls = subst (λ (y : Memory). SameImage (memory_of s.machine) y ⊎ OneCall (memory_of s.machine) y)
            (sym same-memory) one-or-none;
        cause = ap (λ (y : Memory). y.faults) same-memory
            ∙ sym (ap (λ (m : Machine). (memory_of m).faults) l.left.machine) ∙ cause;
        answers = regional-whole request regional;
        finds = waits-none;
        awaits = awaits-nothing o s.machine t nothing (Did reply);
        numbers = ap (λ (y : Spaces). y.numbers) same-spaces;
        quiet = λ micro same. absurd (let no = micro in cc);
        waits = λ on no. absurd (let e = no in cc);
        work = act-measured s new (ended-keeps.keeps.heap.size ∙ sym due.running.keeps.heap.size) does.free (Did reply)
            end_act new-history (let less = laws.work.guards.ended o s.machine es due.running.keeps
            due.running.unwritten new.machine t request reply region-ends ended-keeps.keeps in omega (arith, less));
        asks = ap (λ (n : ThreadNotes). n.asks) steps.notes ∙ noted-asks request op.End reply between.notes
            ∙ ap (λ (n : ThreadNotes). n.asks) l.left.notes;
        noted = ap (λ (n : ThreadNotes). n.waits) steps.notes ∙ noted-waits request op.End reply between.notes
            ∙ ap (λ (n : ThreadNotes). n.waits) l.left.notes;
      }

      pub ended-comes : (memory_of between.machine).faults ≡ (memory_of s.machine).faults
          → Comes o first es threads t fs request (event_of request result) s new
      ended-comes cause = subst (λ y. Comes o first es threads t fs request (event_of request y) s new) (sym is-did.1)
          (did-comes cause)

      pub ended-spares : SparesSink (event_of request result) s.history.acts new.history.acts
      ended-spares = subst (λ y. SparesSink (event_of request y) s.history.acts new.history.acts) (sym is-did.1)
          (record { acts = inr (end_act, new-history, tt); fault = tt })

-- ---- of each run of the set

module _ (laws : Laws) (set : SetFacts) (s : Shared) (t : ℕ) (request : Request Ref Item)
    (room : length s.history.acts < s.history.limit) (ready : IsReady (doing_of s.machine t))
    (is_open : 0 < (log_of s.machine t).depth) (from : At) (is_end : request ≡ ask.End from) where
  abbrev ServesBy : Event → Shared → Type 0
  ServesBy result new = (takes : ℕ → ℕ → Option ℕ) (taken : Option (List ℕ)) (faults : ℕ)
      → Serves set t request result s new takes takes taken taken faults faults

  pub part-serves : (new : Shared) → EndsOnTo t s new
      → (memory_of new.machine).faults ≡ (memory_of s.machine).faults → ServesBy Micro new
  part-serves new l cause = spared-serves set s new t request Micro
      (λ o first es threads fs due. ends-on laws o first set s es threads t fs request due room ready is_open from is_end new l cause)
      (record { acts = inl (ap (λ (h : History). h.acts) l.left.history); fault = tt })

  pub closed-serves : (new : Shared) → ClosesTo t s new
      → (memory_of new.machine).faults ≡ (memory_of s.machine).faults → ServesBy Micro new
  closed-serves new l cause = spared-serves set s new t request Micro
      (λ o first es threads fs due. closed laws o first set s es threads t fs request due room ready is_open from is_end new l cause)
      (record { acts = inr (_, ap (λ (h : History). h.acts) l.history, tt); fault = tt })

  pub failed-serves : (new : Shared) → EndingFailsTo t s new
      → (memory_of new.machine).faults ≡ next_count (memory_of s.machine).faults
      → ServesBy (Over (Met met.ImageFault)) new
  failed-serves new f cause = spared-serves set s new t request (Over (Met met.ImageFault))
      (λ o first es threads fs due. ending-failed laws o first set s es threads t fs request due room ready is_open from is_end new f
      cause)
      (record { acts = inl (ap (λ (h : History). h.acts) f.left.history); fault = tt })

  -- ---- the last part

  module _ (between : Shared) (l : LeavesTo t s between) (due : IsDueFor set s t request) where
    abbrev left : Machine
    left = with_logged s.machine l.twin t l.log

    between-is : left ≡ between.machine
    between-is = sym l.left.machine

    keeps : KeepsShared due.0 left due.2
    keeps = left-keeps laws due.0 due.1 set s due.2 due.3 t due.4 request due.5 room ready is_open from is_end between l

    pub left-whole : IsWhole between.machine.spaces
    left-whole = subst (λ (m : Machine). IsWhole m.spaces) between-is (due.2, keeps.0.whole)

    pub left-long : 33 ≤ (memory_of between.machine).size
    left-long = subst (λ (m : Machine). 33 ≤ (memory_of m).size) between-is
        (let size = keeps.0.size in let long = keeps.0.long in omega (arith, size, long))

    pub left-sound : AreSound between.machine.rest.monitors
    left-sound = subst (λ (m : Machine). AreSound m.rest.monitors) between-is keeps.0.sound

    pub left-agree : (count : ℕ) → count < 2 ^ 32 → count ≡ length between.history.acts
        → Agrees set (shown_in between.machine) between.machine.rest
    left-agree count few32 is = subst (λ (m : Machine). Agrees set (shown_in m) m.rest) between-is
        (left-agrees laws due.0 due.1 set s due.2 due.3 t due.4 request due.5 room ready is_open from is_end between l
        (let same = ap (λ (h : History). length h.acts) l.left.history in omega (arith, few32, is, same)))

    pub left-may : MayRequest set between.machine t request
    left-may = subst (λ (m : Machine). MayRequest set m t request) between-is
        (may-end laws due.0 due.1 set s due.2 due.3 t due.4 request due.5 room ready is_open from is_end between l)

    pub left-room : length between.history.acts < between.history.limit
    left-room = subst (λ (h : History). length h.acts < h.limit) (sym l.left.history) room

    pub gives-none : given request ≡ None
    gives-none = regional-gives request (subst IsRegional (sym is_end) tt)

    pub ended-serves : (new : Shared) (result : Stepped) → StepsTo set t request result between new
        → IsNoStore result → (memory_of between.machine).faults ≡ (memory_of s.machine).faults
        → ServesBy (event_of request result) new
    ended-serves new result x none cause = spared-serves set s new t request (event_of request result)
        (λ o first es threads fs its. ended-comes laws o first set s es threads t fs request its room ready is_open from is_end
        between l new result x none cause)
        (ended-spares laws due.0 due.1 set s due.2 due.3 t due.4 request due.5 room ready is_open from is_end between l
        new result x none)
