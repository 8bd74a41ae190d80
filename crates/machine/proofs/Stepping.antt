-- Steps of requests that store nothing.
use Rattle.std.proofs.Common.{◌≡◌, inl, inr, ℕ, ◌-◌, ◌<◌, true, false, List, [], ◌∷◌, ◌++◌, length, None, unwrap_or}
use Rattle.std.proofs.Common.{◌≢◌, ◌≤◌}
use Rattle.std.proofs.Common.{Option, Some, refl, sym, ◌∙◌, ap, subst, arith}
use Rattle.std.specs.Prelude.{slice_set}
use Rattle.std.proofs.lemmas.List.{append-nil, length-map}
use Rattle.ap_base.specs.Sinks.{TakesBehind, with_bytes}
use Rattle.ap_base.specs.declared.reference.Ref.{Ref}
use Rattle.ap_base.specs.declared.reference.Item.{Item}
use Rattle.run_types.specs.declared.fault.RunFault.TheVariants as fault
use Rattle.run_types.specs.declared.fault.StepFault.{StepFault}
use Rattle.run_types.specs.declared.fault.StepFault.TheVariants as met
use Rattle.run_types.specs.declared.resolved.At.{At}
use Rattle.graph_model.specs.declared.types.Root.{Root}
use Rattle.natives.specs.declared.requests.Request.{Request}
use Rattle.natives.specs.declared.requests.Reply.{Reply}
use Rattle.run_history.specs.declared.act.Op.{Op}
use Rattle.run_history.specs.declared.act.Op.TheVariants as op
use Rattle.run_history.specs.Recorded.{History, Recorded, names_after, names_for}
use Rattle.run_history.specs.Worlds.{World, depth_of}
use Rattle.plain_model.specs.Facts.{SetFacts}
use Rattle.plain_model.specs.Requests.{PlainRequest}
use Rattle.plain_model.specs.Codes.{begun_by, is_persistent, taken_by}
use Rattle.plain_model.specs.Ends.{Prints, wait_of}
use Rattle.plain_model.specs.Runs.{printed_by}
use Rattle.plain_model.specs.Steps.{Does, step}
use Rattle.shared_objects.specs.Plain.{plain_request, plain_reply}
use Rattle.shared_objects.specs.Worlds.{KnowsMonitors, plain_thread, world_of}
use Rattle.step_forms.specs.declared.stepped.Stepped.{Stepped}
use Rattle.step_forms.specs.declared.stepped.Stepped.TheVariants as stepped
use Rattle.step_forms.specs.Becomes.{Becomes, IsNoStore}
use Rattle.step_forms.specs.Follows.{IsStep, stored_as}
use Rattle.line_memory.specs.Memory.{SameImage}
use Rattle.shared_heap.specs.Passed.{BehindGoes, FaultsGo, IsSilent, OutputGoes, SharesGo}
use Rattle.run_forms.specs.Views.{ThreadFrames}
use Rattle.run_forms.specs.Standing.{plain_code}
use Rattle.run_forms.specs.Ends.{Ends, IsEndedBy, from_in}
use Rattle.run_forms.proofs.Visible.{is_print, prints, step-inside, step-silent, step-visible}
use Rattle.twin_forms.specs.Table.{Entry}
use Rattle.convert_queue.specs.Queues.{Queues, total}
use Rattle.two_spaces.specs.Seen.{Spaces, shown_of}
use Rattle.machine_threads.specs.Passed.{Doing}
use Rattle.machine_threads.specs.Passed.{Nothing, Converting}
use Rattle.region_log.specs.declared.entry.Underway.TheVariants.{Nothing as Idle}
use Rattle.machine_threads.specs.Passed.{IsFreeOp}
use Rattle.machine_threads.specs.Passed.{Opening, Machine, doing_of, known_in, layout_in, log_of, memory_of, roots_in, shown_in}
use Rattle.machine_threads.specs.Passed.{IsDoing, KeepsRun}
use Rattle.machine_threads.specs.Passed.{ActsBeside, DoesRequest, IsFree, IsListed, LeavesRegions, MakesListed, NotesStore}
use Rattle.machine_threads.specs.Passed.{StoresBeside, act_in, left_by}
use Rattle.machine_threads.specs.Passed.{IsReady, RunsAsPlain, Asks}
use Rattle.shared_heap.specs.Shared.{Shared}
use Rattle.shared_heap.specs.Requests.{StepsTo, noted_by}
use Rattle.machine.proofs.Rows.{plain-rows}
use Rattle.machine.proofs.Starting.{HasNotes, notes-start}
use Rattle.two_spaces.specs.Whole.{MakesIn, StoresIn}
use Rattle.machine.specs.declared.events.Event.TheVariants.{Did, Over, WouldWait}
use Rattle.machine.specs.declared.events.Halt.TheVariants.{Met}
use Rattle.machine.specs.Ended.{IsOutside, event_of, nowhere}
use Rattle.machine.specs.Events.{Comes, IsUnanswered, logs_word, KeepsRows, NotesStart, HasImageCause, HasSinkCause, IsShare, TakesOutput, AsksOn, IsBelow}
use Rattle.machine.specs.Laws.{Laws}
use Rattle.machine.specs.Running.{IsDue, HadNoFault}
use Rattle.machine.proofs.Aside.{keeps-aside, plain-aside}
use Rattle.machine.proofs.Basics.{doing-same, not-longer, some-same}
use Rattle.machine.proofs.Bound.{wait-bound}
use Rattle.machine.proofs.Doing.{answers}
use Rattle.machine.proofs.Finding.{does-waits-none, finds-plain, waits-silent}
use Rattle.machine.proofs.Leaving.{asked, few, fits, Kept, goes-on, same-room}
use Rattle.machine.proofs.Memory.{does-stay, stays, StaysPut}
use Rattle.machine.proofs.Printing.{behind-not, behind-so, bytes-none, last-same, other-cause, over-cause, printed-not, printed-so, share-so}
use Rattle.machine.proofs.Steps.{DoesFine, MayMake, broken-over, did-fine, may-make, stores-alone, StartsNoneBy, starts-none}
use Rattle.convert_waits.specs.Stuck.{IsPlain, HoldsWait}
use Rattle.graph_model.specs.declared.types.Value.TheVariants.{Obj as Object}
use Rattle.machine.proofs.Noting.{noted-asks, noted-waits, noted-wait, noted-wrong, noted-over}
use Rattle.machine_threads.specs.Passed.{TakesLines}
use Rattle.machine_threads.specs.Passed.{HasUnwritten}
use Rattle.machine_threads.specs.Passed.{measure, work_left}
use Rattle.machine_threads.specs.Passed.{scene_of}
use Rattle.machine_threads.specs.Keeping.{KeepsThread, IsUnbegun}
use Rattle.machine_threads.specs.Stuck.{plain_waits, requests_in}
use Rattle.run_types.specs.Faults.{run_fault}
use Rattle.run_types.specs.declared.wait.On.{On}
use Rattle.run_types.specs.declared.wait.On.TheVariants as on
use Rattle.shared_heap.specs.Notes.{ThreadNotes}
use Rattle.machine_threads.proofs.Asking.{Lives, plain-get, plain-lives}
use Rattle.shared_objects.specs.declared.threads.ThreadState.{ThreadState}
use Rattle.run_history.specs.Worlds.{Thread}
use Rattle.std.specs.Prelude.{map, slice_get}

-- ---- operations that store nothing

-- only a seal names objects
named-none : (o : Op) (ns : List ℕ) → is_persistent o ≡ false → names_for o ns ≡ []
named-none op.Joined ns e = absurd (let no = e in cc)
named-none o ns e = refl

named-still : (o : Op) (ns : List ℕ) → is_persistent o ≡ false → names_after o ns ≡ ns
named-still op.Joined ns e = absurd (let no = e in cc)
named-still o ns e = refl

left-same : (o : Op) (r : Reply Ref Item) (d : Doing) → IsNoStore (stepped.Did o r) → left_by o d ≡ d
left-same (op.Stored place value) r d none = absurd none
left-same o r d none = refl

beside-none : (ope : Opening) (m : Machine) (es : List Entry) (o : Op) (r : Reply Ref Item)
    → IsNoStore (stepped.Did o r) → StoresBeside ope m es o
beside-none ope m es (op.Stored place value) r none = absurd none
beside-none ope m es o r none = tt

notes-none : (es : List Entry) (o : Op) (r : Reply Ref Item) (q q' : Queues) → IsNoStore (stepped.Did o r)
    → q' ≡ q → NotesStore es o q q'
notes-none es (op.Stored place value) r q q' none same = absurd none
notes-none es o r q q' none same = same

module _ (set : SetFacts) (Made : ℕ → Type 0) (may : MayMake set Made) where
  fine-outside : (o : Op) → DoesFine set Made (Unit {0}) may o → LeavesRegions o
  fine-outside op.Begin fine = absurd fine
  fine-outside op.End fine = absurd fine
  fine-outside o fine = tt

free-op : (ope : Opening) (m : Machine) (t : ℕ) (o : Op) (r : Reply Ref Item) → IsNoStore (stepped.Did o r)
    → IsFreeOp ope m t o
free-op ope m t (op.Stored place value) r none = absurd none
free-op ope m t o r none = tt

fine-listed : (set : SetFacts) (o : Opening) (m : Machine) (may : MayMake set (IsListed o m)) (operation : Op)
    → DoesFine set (IsListed o m) (Unit {0}) may operation → MakesListed o m operation
fine-listed set o m may (op.Alloc n class count) fine = fine
fine-listed set o m may (op.Throw n class) fine = fine
fine-listed set o m may operation fine = tt

-- ---- who lives

-- Where the world's threads are the same, whoever lives lives still.
world-lives : (states now : List ThreadState) (u : ℕ) → map plain_thread now ≡ map plain_thread states
    → Lives states u → Lives now u
world-lives states now u same old = plain-lives now u (plain_thread old.state) old.lives
    (ap (λ (ths : List Thread). slice_get ths u) same ∙ plain-get states u old.state old.there)

-- ---- faults

abbrev IsNoImageFault : StepFault → Type 0
IsNoImageFault met.ImageFault = ⊥
IsNoImageFault f = Unit {0}

unfailed : (f : StepFault) (before after : ℕ) → IsNoImageFault f → after ≡ before
    → HasImageCause (Over (Met f)) before after
unfailed met.ImageFault before after other same = absurd other
unfailed f before after other same = same

-- ---- waits of the plain world

plain-holds : (o : Opening) (m : Machine) (es : List Entry) (t : ℕ) (p : On) → IsPlain p → plain_waits o m t ≡ Some p
    → HoldsWait (plain_waits o m) (scene_of m) es t p
plain-holds o m es t (on.Conversion u) is held = absurd is
plain-holds o m es t (on.Monitor u) is held = held
plain-holds o m es t (on.Join u) is held = held
plain-holds o m es t (on.Init u) is held = held

below-plain : (p : On) → IsPlain p → IsBelow p
below-plain (on.Conversion u) is = absurd is
below-plain (on.Monitor u) is = tt
below-plain (on.Join u) is = tt
below-plain (on.Init u) is = tt

no-image : true ≡ false → ⊥
no-image e = let no = e in cc

module _ (laws : Laws) (o : Opening) (first : ℕ) (set : SetFacts) (s : Shared) (es : List Entry)
    (threads : List ThreadFrames) (t : ℕ) (fs : ThreadFrames) (request : Request Ref Item) (due : IsDue o first set s es threads t fs request)
    (room : length s.history.acts < s.history.limit) (ready : IsReady (doing_of s.machine t)) (new : Shared)
  where
    abbrev plain : PlainRequest
    plain = plain_request (shown_in s.machine).number request

    -- the log counts the regions that the acts have opened
    pub depth-is : (log_of s.machine t).depth ≡ depth_of (world_of [] (shown_in s.machine) s.machine.rest) t
    depth-is =
        let own = due.running.keeps.asked.regions.each t due.thread in
        own.guards.depth ∙ ap (depth_of (known_in o s.machine).world) own.thread
        ∙ ap (λ (w : World). depth_of w t) due.running.keeps.world.world

    may : MayMake o.launch.set (IsListed o s.machine)
    may = may-make o.launch.set (IsListed o s.machine) due.running.listed

    module _ (result : Stepped) (x : StepsTo set t request result s new) (none : IsNoStore result) where
      pub is-step : IsStep o.launch.set t request (shown_in s.machine) s.machine.rest result (shown_in
          new.machine)
          new.machine.rest
      is-step = subst (λ (y : SetFacts). IsStep y t request (shown_in s.machine) s.machine.rest result
          (shown_in new.machine) new.machine.rest) due.facts x.step

      ends : (lines : ℕ) → Ends o.launch lines s.machine.acts t request result
      ends lines = laws.ends.steps o s.machine es threads due.running.keeps due.running.plain lines t fs
          request
          result (shown_in new.machine) new.machine.rest ready due.asks is-step
          (few laws o first set s es threads t fs request due room)

      -- a thread that converts asks a store
      not-converting : doing_of s.machine t ≡ Converting → ⊥
      not-converting converting =
          let doing = subst (IsDoing (known_in o s.machine) (layout_in o es) t) converting
          (due.running.keeps.asked.doing t) in
          let p = doing.0.0 in
          let its = (due.running.all.each t fs due.asks.frames).about p doing.0.1 in
          let same : its.0 ≡ plain
          = some-same its.0 plain (sym its.2 ∙ (asked laws o first set s es threads t fs request due ready).plain) in
          let stores : step o.launch.set (world_of (roots_in o s.machine) (shown_in s.machine) s.machine.rest) t 1 plain
          ≡ stored_as p.place (Object its.1)
          = subst (λ w. step o.launch.set w t 1 plain ≡ stored_as p.place (Object its.1)) due.running.keeps.world.world
          (subst (λ (q : PlainRequest). step o.launch.set (known_in o s.machine).world t 1 q
          ≡ stored_as p.place (Object its.1)) same its.4.does) in
          stores-alone o.launch.set t request (shown_in s.machine) s.machine.rest (shown_in new.machine)
          new.machine.rest p.place (Object its.1) (roots_in o s.machine) stores result is-step none

      pub nothing : doing_of s.machine t ≡ Nothing
      nothing = elim ready [ inl is ↦ is | inr converting ↦ absurd (not-converting converting) ]

    -- ---- it did something

    module _ (operation : Op) (r : Reply Ref Item) (x : StepsTo set t request (stepped.Did operation r) s new)
        (none : IsNoStore (stepped.Did operation r)) where
      pub is : IsStep o.launch.set t request (shown_in s.machine) s.machine.rest (stepped.Did operation r)
          (shown_in new.machine) new.machine.rest
      is = is-step (stepped.Did operation r) x none

      pub does-it : step o.launch.set (world_of [] (shown_in s.machine) s.machine.rest) t (taken_by operation)
          plain
          ≡ Does operation (plain_reply (shown_in new.machine).number r)
      does-it = (is.follows []).0

      pub visible : is_persistent operation ≡ false
      visible = step-visible o.launch.set (world_of [] (shown_in s.machine) s.machine.rest) t (taken_by
          operation)
          plain operation (plain_reply (shown_in new.machine).number r)
          (asked laws o first set s es threads t fs request due ready).fit does-it

      abbrev act : Recorded
      act = act_in s.machine t operation []

      pub did-acts : new.history.acts ≡ s.history.acts ++ act ∷ []
      did-acts = ap (λ (y : History). y.acts) x.history
          ∙ ap (λ (ns : List ℕ). s.history.acts ++ record { act = act.act; named = ns } ∷ [])
          (named-none operation s.history.named visible)

      pub machine-acts : new.machine.acts ≡ s.machine.acts ++ act ∷ []
      machine-acts = ap (λ (m : Machine). m.acts) x.machine ∙ did-acts
          ∙ ap (λ (xs : List Recorded). xs ++ act ∷ []) due.running.acts

      free : IsFree o s.machine es t (doing_of s.machine t)
      free = subst (IsFree o s.machine es t) (sym (nothing (stepped.Did operation r) x none)) tt

      pub does : DoesRequest o s.machine new.machine es t request operation r
      does = record {
        thread = due.thread;
        fit = fits laws o first set s es threads t fs request due ready;
        doing = free;
        step = is;
        heap = x.heap;
        sound = x.sound;
        free = ap (λ (m : Machine). m.free) x.machine;
        acts = machine-acts;
      }

      -- the request neither begins nor ends a region
      module _ (idle : (log_of s.machine t).underway ≡ Idle)
          (outside : IsOutside (log_of s.machine t).depth request) where
        fine : DoesFine o.launch.set (IsListed o s.machine) (Unit {0}) may operation
        fine = did-fine o.launch.set (IsListed o s.machine) (Unit {0}) may
            (world_of [] (shown_in s.machine) s.machine.rest) t (shown_in s.machine).number (taken_by
            operation) request
            operation (plain_reply (shown_in new.machine).number r) (inr tt)
            (subst (λ depth. IsOutside depth request) depth-is outside)
            (asked laws o first set s es threads t fs request due ready).fit due.made does-it

        acts-beside : ActsBeside o s.machine new.machine es t request operation r
        acts-beside = record {
          does = does;
          outside = fine-outside o.launch.set (IsListed o s.machine) may operation fine;
          beside = beside-none o s.machine es operation r none;
          logs = ap (λ (m : Machine). m.logs) x.machine;
          notes = notes-none es operation r s.machine.queue new.machine.queue none
              (ap (λ (m : Machine). m.queue) x.machine);
          listed = fine-listed o.launch.set o s.machine may operation fine;
          doing = ap (λ (m : Machine). m.doing) x.machine ∙ sym (doing-same s.machine.doing t)
              ∙ ap (slice_set s.machine.doing t) (sym (left-same operation r (doing_of s.machine t) none));
        }

        -- a request that isn't to start a thread starts none
        begun-none : (operation' : Op) → StartsNoneBy operation'
            → [] ≡ begun_by o.launch.set o.launch.main o.launch.opening (plain_code o.launch) operation'
        begun-none (op.Start n child) none' = absurd none'
        begun-none operation' none' = refl

        did-start : HasNotes request new → (n child : ℕ) → operation ≡ op.Start n child
            → NotesStart o operation child s new
        did-start notes n child is = subst (λ (x : Op). NotesStart o x child s new) (sym is)
            (notes-start o t s new n child r (plain_reply (shown_in new.machine).number r) (taken_by operation)
            (subst (λ (x : Op). Becomes shown_of StoresIn MakesIn s.machine.spaces (stepped.Did x r) new.machine.spaces)
            is x.heap) request (subst (λ depth. IsOutside depth request) depth-is outside)
            (asked laws o first set s es threads t fs request due ready).fit
            (subst (λ (x : Op). step o.launch.set (world_of [] (shown_in s.machine) s.machine.rest) t
            (taken_by operation) plain ≡ Does x (plain_reply (shown_in new.machine).number r)) is does-it) notes
            (x.notes ∙ ap (λ (x : Op). noted_by request (stepped.Did x r) s.notes) is))

        -- what was done waits for nothing in the plain world
        did-free : plain_waits o s.machine t ≡ None
        did-free =
            laws.threads.wait o s.machine es threads due.running.keeps due.running.plain t fs request ready due.asks
            ∙ ap (λ w. wait_of (step o.launch.set w t 1 plain)) due.running.keeps.world.world
            ∙ does-waits-none o.launch.set (world_of (roots_in o s.machine) (shown_in s.machine) s.machine.rest) t
            (taken_by operation) plain operation (plain_reply (shown_in new.machine).number r)
            (is.follows (roots_in o s.machine)).0

        did-comes : HasNotes request new → Comes o first es threads t fs request (Did r) s new
        did-comes notes = answers laws o first set s es threads t fs request due new operation r acts-beside (record {
          idle = idle;
          left = left-same operation r (doing_of s.machine t) none
              ∙ nothing (stepped.Did operation r) x none;
          starts = λ it. begun-none operation (starts-none o.launch.set (world_of [] (shown_in s.machine) s.machine.rest)
              t (shown_in s.machine).number (taken_by operation) request operation
              (plain_reply (shown_in new.machine).number r) it (subst (λ depth. IsOutside depth request) depth-is outside)
              (asked laws o first set s es threads t fs request due ready).fit does-it);
          started = did-start notes;
          meets = λ lines.
              laws.ends.steps_meet o s.machine es threads due.running.keeps due.running.plain lines t fs
              request
              operation r (shown_in new.machine) new.machine.rest ready due.asks is
              (free-op o s.machine t operation r none) (few laws o first set s es threads t fs request due room);
          lines = x.lines;
          history = sym (ap (λ (m : Machine). m.acts) x.machine);
          named = ap (λ (y : History). y.named) x.history ∙ named-still operation s.history.named visible;
          limit = ap (λ (y : History). y.limit) x.history;
          room = ap (λ (y : History). y.room) x.history;
          queued = ap (λ (m : Machine). total m.queue.queues) x.machine;
          asks = ap (λ (n : ThreadNotes). n.asks) x.notes ∙ noted-asks request operation r s.notes;
          noted = ap (λ (n : ThreadNotes). n.waits) x.notes ∙ noted-waits request operation r s.notes;
          whole = broken-over o.launch.set (world_of [] (shown_in s.machine) s.machine.rest) t (taken_by
              operation)
              (shown_in s.machine).number request operation (plain_reply (shown_in new.machine).number r)
              does-it;
          free = did-free;
        })

      silent-print : prints plain ≡ false → is_print operation ≡ false
      silent-print quiet = (step-silent o.launch.set (world_of [] (shown_in s.machine) s.machine.rest) t
          (taken_by operation) plain operation (plain_reply (shown_in new.machine).number r)
          (asked laws o first set s es threads t fs request due ready).fit quiet does-it).1

      did-told : (taken taken' : Option (List ℕ)) (takes takes' : ℕ → ℕ → Option ℕ)
          → OutputGoes request taken (stepped.Did operation r) taken'
          → BehindGoes request takes (stepped.Did operation r) takes'
          → TakesOutput s.history.acts new.history.acts taken taken' takes takes'
      did-told taken taken' takes takes' put left =
          let alone = sym (append-nil (printed_by operation)) in record {
            further = act ∷ [];
            acts = did-acts;
            output = printed-so (shown_in s.machine).number request operation r taken taken' silent-print put
                ∙ ap (with_bytes taken) alone;
            behind = subst (λ (bytes : List ℕ). TakesBehind takes takes' (length bytes)) alone
                (behind-so (shown_in s.machine).number request operation r takes takes' silent-print left);
          }

      did-share : (takes : ℕ → Option ℕ) → SharesGo request takes (stepped.Did operation r) → (a : Recorded)
          → new.history.acts ≡ s.history.acts ++ a ∷ [] → IsShare request takes a.act.op
      did-share takes share a is_last = subst (λ (b : Recorded). IsShare request takes b.act.op)
          (last-same s.history.acts act a (sym did-acts ∙ is_last)) (share-so request takes operation r share)

    -- ---- it did nothing

    -- the heap and the history are as they were, and the world
    pub record Stops (result : Stepped) : Type 0 where
      pub step : IsStep o.launch.set t request (shown_in s.machine) s.machine.rest result (shown_in
          new.machine)
          new.machine.rest
      pub spaces : new.machine.spaces ≡ s.machine.spaces
      pub machine : new.machine ≡ record s.machine { rest = new.machine.rest }
      pub history : new.history ≡ s.history
      pub known : KnowsMonitors (shown_in s.machine) new.machine.rest
      pub world : (roots : List Root) → world_of roots (shown_in s.machine) new.machine.rest
          ≡ world_of roots (shown_in s.machine) s.machine.rest

    stops : (result : Stepped) → StepsTo set t request result s new → IsNoStore result
        → new.machine.spaces ≡ s.machine.spaces → new.history ≡ s.history
        → ((roots : List Root) → world_of roots (shown_in new.machine) new.machine.rest
        ≡ world_of roots (shown_in s.machine) s.machine.rest) → Stops result
    stops result x none spaces history world =
        let acts : new.history.acts ≡ s.machine.acts = ap (λ (y : History). y.acts) history ∙
        due.running.acts in
        record {
          step = is-step result x none;
          spaces = spaces;
          machine = x.machine ∙ (λ i. record s.machine {
            acts = acts i;
            spaces = spaces i;
            rest = new.machine.rest;
          });
          history = history;
          known = subst (λ (y : Spaces). KnowsMonitors (shown_of y) new.machine.rest) spaces x.step.monitors;
          world = λ roots. subst (λ (y : Spaces). world_of roots (shown_of y) new.machine.rest
              ≡ world_of roots (shown_in s.machine) s.machine.rest) spaces (world roots);
        }

    module _ (result : Stepped) (x : StepsTo set t request result s new) (st : Stops result) where
      aside-now : KeepsRun o new.machine es
      aside-now = subst (λ (m : Machine). KeepsRun o m es) (sym st.machine)
          (keeps-aside o s.machine es due.running.keeps new.machine.rest x.sound st.known st.world)

      aside-plain : RunsAsPlain o new.machine threads
      aside-plain = subst (λ (m : Machine). RunsAsPlain o m threads) (sym st.machine)
          (plain-aside o s.machine es due.running.keeps new.machine.rest x.sound st.known st.world threads
          due.running.plain)

      same-acts : new.machine.acts ≡ s.machine.acts
      same-acts = ap (λ (m : Machine). m.acts) st.machine

      put : StaysPut s.machine.spaces new.machine.spaces
      put = stays s.machine.spaces new.machine.spaces st.spaces

      -- ---- the run is over

      module _ (f : StepFault) (ended : (lines : ℕ) → IsEndedBy o.launch lines s.machine.acts t (run_fault f))
          (other : IsNoImageFault f) (noted : new.notes ≡ s.notes) where
        stops-comes : Comes o first es threads t fs request (Over (Met f)) s new
        stops-comes = record {
          goes = record {
            after = es;
            keeps = aside-now;
            plain = aside-plain;
            history = st.history;
            acts = same-acts;
            ends = subst (λ (xs : List Recorded). IsEndedBy o.launch ((memory_of new.machine).size - first) xs
                t (run_fault f)) (sym same-acts) (ended _);
          };
          acts = ap (λ (y : History). y.acts) st.history;
          calls = inl put.image;
          cause = unfailed f _ _ other put.image.faults;
          answers = tt;
          finds = tt;
          awaits = λ u w. tt;
          numbers = put.numbers;
          quiet = λ micro same. absurd (let no = micro in cc);
          waits = λ on no. absurd (let e = no in cc);
          work = tt;
          asks = ap (λ (n : ThreadNotes). n.asks) noted;
          noted = ap (λ (n : ThreadNotes). n.waits) noted;
        }

      -- ---- the thread waits

      aside-lives : (u : ℕ) (gs : ThreadFrames) (q : Request Ref Item) → Asks o s.machine threads u gs q
          → Asks o new.machine threads u gs q
      aside-lives u gs q asks =
          let lives = world-lives s.machine.rest.threads new.machine.rest.threads u
          (ap (λ (w : World). w.threads) (st.world []))
          (record { state = asks.state; there = asks.thread; lives = asks.lives }) in record {
            state = lives.state;
            thread = lives.there;
            lives = lives.lives;
            frames = asks.frames;
            asks = asks.asks;
          }

      aside-keeps : (u : ℕ) (gs : ThreadFrames) → KeepsThread o s.machine es u gs → KeepsThread o new.machine es u gs
      aside-keeps u gs own = subst (λ (m : Machine). KeepsThread o m es u gs) (sym st.machine) (record {
        about = own.about;
        holds = own.holds;
        lags = own.lags;
        logs = own.logs;
      })

      aside-unbegun : (u : ℕ) → IsUnbegun s.machine u → IsUnbegun new.machine u
      aside-unbegun u none = subst (λ (m : Machine). IsUnbegun m u) (sym st.machine)
          (record { doing = none.doing; log = none.log })

      same-many : length new.machine.rest.threads ≡ length s.machine.rest.threads
      same-many = sym (length-map new.machine.rest.threads plain_thread)
          ∙ ap (λ (w : World). length w.threads) (st.world [])
          ∙ length-map s.machine.rest.threads plain_thread

      aside-kept : Kept o first t s.machine new.machine es es threads threads
      aside-kept = record {
        keeps = aside-now;
        plain = aside-plain;
        taken = subst (λ (m : Machine). TakesLines o first m es) (sym st.machine) due.running.taken;
        unwritten = subst (λ (m : Machine). HasUnwritten m es) (sym st.machine) due.running.unwritten;
        all = record {
          each = λ u gs is. aside-keeps u gs (due.running.all.each u gs is);
          unbegun = λ u past. aside-unbegun u (due.running.all.unbegun u past);
        };
        others = record {
          ask = λ u gs q other asks. aside-lives u gs q asks;
          doing = λ u other. ap (λ (m : Machine). doing_of m u) st.machine;
          forwarded = λ u other old. old;
        };
      }

      asks-aside : AsksOn o first s new es threads t
      asks-aside = record {
        after = es;
        runs = goes-on laws o first set s es threads t fs request due new es threads (record {
          kept = aside-kept;
          many = due.running.many ∙ sym same-many;
          lines = x.lines;
          acts = ap (λ (y : History). y.acts) st.history ∙ due.running.acts ∙ sym same-acts;
          limit = ap (λ (y : History). y.limit) st.history;
          unnamed = ap (λ (y : History). y.named) st.history ∙ due.running.unnamed;
          room = same-room laws o first set s es threads t fs request due new es aside-now
              (ap (λ (m : Machine). m.free) st.machine) (ap (λ (m : Machine). total m.queue.queues) st.machine)
              (ap (λ (y : History). y.room) st.history);
          numbers = put.numbers;
          unfaulted = subst (HadNoFault o.launch) (sym same-acts) due.running.unfaulted;
        });
        own = λ gs q asks. aside-lives t gs q asks;
        others = aside-kept.others;
      }

    -- ---- a step that waits

    module _ (on : On) (x : StepsTo set t request (stepped.Waits on) s new) where
      st : Stops (stepped.Waits on)
      st = stops (stepped.Waits on) x tt x.heap x.history (λ roots. (x.step.follows roots).1)

      waits-now : plain_waits o s.machine t ≡ Some on
      waits-now = laws.threads.wait o s.machine es threads due.running.keeps due.running.plain t fs request ready due.asks
          ∙ ap (λ w. wait_of (step o.launch.set w t 1 plain)) due.running.keeps.world.world
          ∙ ap wait_of (((is-step (stepped.Waits on) x tt).follows (roots_in o s.machine)).0 1)

      is-plain : IsPlain on
      is-plain = laws.threads.plain o.launch.set (known_in o s.machine) (requests_in o s.machine) t on waits-now

      not-converting-now : doing_of s.machine t ≢ Converting
      not-converting-now = not-converting (stepped.Waits on) x tt

      pub waits-comes : Comes o first es threads t fs request (WouldWait on) s new
      unfolding asks-aside
      waits-comes = record {
        goes = record {
          asks = asks-aside (stepped.Waits on) x st;
          table = es;
          agrees = (aside-now (stepped.Waits on) x st).heap.agrees;
          holds = plain-holds o new.machine es t on is-plain
              (subst (λ (m : Machine). plain_waits o m t ≡ Some on) (sym st.machine) waits-now);
          forwarded = λ n claimed. absurd (laws.threads.nothing o s.machine es t due.running.keeps not-converting-now n
              claimed);
          ready = inl (ap (λ (m : Machine). doing_of m t) st.machine ∙ nothing (stepped.Waits on) x tt);
          below = below-plain on is-plain;
          rows = subst (λ (m : Machine). KeepsRows o t on s.machine m) (sym st.machine)
              (plain-rows o s.machine es due.running.keeps new.machine.rest x.sound st.known st.world t on waits-now
              (laws.threads.nothing o s.machine es t due.running.keeps not-converting-now));
          needing = λ converts. absurd (not-converting-now converts);
          history = λ plain. st.history;
        };
        acts = ap (λ (y : History). y.acts) st.history;
        calls = inl (put (stepped.Waits on) x st).image;
        cause = (put (stepped.Waits on) x st).image.faults;
        answers = tt;
        finds = finds-plain (logs_word s.machine t) on (plain_waits o s.machine t) is-plain waits-now;
        awaits = λ u w. absurd (not-converting-now w.converting);
        numbers = (put (stepped.Waits on) x st).numbers;
        quiet = λ micro same. absurd (let no = micro in cc);
        waits = λ on2 is. subst (λ (m : Machine). measure m ≤ measure s.machine) (sym st.machine) (omega arith);
        work = wait-bound s new on
            (subst (λ (m : Machine). work_left m ≤ work_left s.machine) (sym st.machine) (omega arith));
        asks = ap (λ (n : ThreadNotes). n.asks) (x.notes ∙ noted-wait request on s.notes);
        noted = ap (λ (n : ThreadNotes). n.waits) (x.notes ∙ noted-wait request on s.notes);
      }

    -- ---- all steps

    pub stepped-comes : (log_of s.machine t).underway ≡ Idle → IsOutside (log_of s.machine t).depth request
        → HasNotes request new → (result : Stepped) → StepsTo set t request result s new → IsNoStore result
        → Comes o first es threads t fs request (event_of request result) s new
    stepped-comes idle outside notes (stepped.Did operation r) x none = did-comes operation r x none idle outside notes
    stepped-comes idle outside notes (stepped.Waits on) x none = waits-comes on x
    stepped-comes idle outside notes stepped.Wrong x none =
        stops-comes stepped.Wrong x
        (stops stepped.Wrong x none x.heap x.history (λ roots. (x.step.follows roots).1))
        (met.BadCode (unwrap_or (from_in request) nowhere)) (λ lines. wrong lines (ends stepped.Wrong x none lines)) tt
        (x.notes ∙ noted-wrong request s.notes)
      where
        wrong : (lines : ℕ) → ((from : At) × (from_in request ≡ Some from)
            × IsEndedBy o.launch lines s.machine.acts t (fault.BadCode from))
            → IsEndedBy o.launch lines s.machine.acts t (fault.BadCode (unwrap_or (from_in request) nowhere))
        wrong lines (from, is_from, ended) =
            subst (λ (a : At). IsEndedBy o.launch lines s.machine.acts t (fault.BadCode a))
            (sym (ap (λ (a : Option At). unwrap_or a nowhere) is_from)) ended
    stepped-comes idle outside notes (stepped.Over f) x none =
        stops-comes (stepped.Over f) x
        (stops (stepped.Over f) x none x.heap x.history (λ roots. (x.step.follows roots).1)) f
        (λ lines. ends (stepped.Over f) x none lines) (inside f x none)
        (x.notes ∙ noted-over request f s.notes)
      where
        inside : (g : StepFault) → StepsTo set t request (stepped.Over g) s new → IsNoStore (stepped.Over g)
            → IsNoImageFault g
        inside met.ImageFault y none2 = elim ((is-step (stepped.Over met.ImageFault) y none2).follows
            []).0 [
              | inl limit ↦ limit
              | inr over ↦ no-image (step-inside o.launch.set
                  (world_of [] (shown_in s.machine) s.machine.rest) t 1 plain met.ImageFault (asked laws o first set s es threads t fs request due ready).fit (over 1))
            ]
        inside g y none2 = tt

    -- ---- what is put into the sink

    told-nothing : (taken taken' : Option (List ℕ)) (takes takes' : ℕ → ℕ → Option ℕ) → new.history ≡ s.history
        → taken' ≡ taken → TakesBehind takes takes' 0
        → TakesOutput s.history.acts new.history.acts taken taken' takes takes'
    told-nothing taken taken' takes takes' same put left = record {
      further = [];
      acts = ap (λ (y : History). y.acts) same ∙ sym (append-nil s.history.acts);
      output = put ∙ bytes-none taken;
      behind = left;
    }

    pub stepped-told : (result : Stepped) → StepsTo set t request result s new → IsNoStore result
        → (taken taken' : Option (List ℕ)) (takes takes' : ℕ → ℕ → Option ℕ) → OutputGoes request taken result taken'
        → BehindGoes request takes result takes'
        → TakesOutput s.history.acts new.history.acts taken taken' takes takes'
    stepped-told (stepped.Did operation r) x none taken taken' takes takes' put left =
        did-told operation r x none taken taken' takes takes' put left
    stepped-told (stepped.Waits on) x none taken taken' takes takes' put left =
        told-nothing taken taken' takes takes' x.history
        (printed-not request (stepped.Waits on) taken taken' tt put)
        (behind-not request (stepped.Waits on) takes takes' tt left)
    stepped-told stepped.Wrong x none taken taken' takes takes' put left =
        told-nothing taken taken' takes takes' x.history
        (printed-not request stepped.Wrong taken taken' tt put)
        (behind-not request stepped.Wrong takes takes' tt left)
    stepped-told (stepped.Over f) x none taken taken' takes takes' put left =
        told-nothing taken taken' takes takes' x.history
        (printed-not request (stepped.Over f) taken taken' tt put)
        (behind-not request (stepped.Over f) takes takes' tt left)

    no-more : {P : Type 0} → new.history ≡ s.history → (a : Recorded)
        → new.history.acts ≡ s.history.acts ++ a ∷ [] → P
    no-more same a more = not-longer s.history.acts a (sym more ∙ ap (λ (y : History). y.acts) same)

    pub stepped-share : (result : Stepped) → StepsTo set t request result s new → IsNoStore result
        → (takes : ℕ → Option ℕ) → SharesGo request takes result → (a : Recorded)
        → new.history.acts ≡ s.history.acts ++ a ∷ [] → IsShare request takes a.act.op
    stepped-share (stepped.Did operation r) x none takes share a more = did-share operation r x none takes
        share a more
    stepped-share (stepped.Waits on) x none takes share a more = no-more x.history a more
    stepped-share stepped.Wrong x none takes share a more = no-more x.history a more
    stepped-share (stepped.Over f) x none takes share a more = no-more x.history a more

    pub stepped-cause : (result : Stepped) → StepsTo set t request result s new → IsNoStore result
        → (before after : ℕ) → FaultsGo request before result after
        → HasSinkCause (event_of request result) before after
    stepped-cause (stepped.Did operation r) x none before after go =
        other-cause request (stepped.Did operation r) before after tt go
    stepped-cause (stepped.Waits on) x none before after go =
        other-cause request (stepped.Waits on) before after tt go
    stepped-cause stepped.Wrong x none before after go = other-cause request stepped.Wrong before after tt go
    stepped-cause (stepped.Over f) x none before after go =
        over-cause o.launch.set t request (shown_in s.machine) s.machine.rest f (shown_in new.machine)
        new.machine.rest (is-step (stepped.Over f) x none)
        (λ sink. subst Prints (asked laws o first set s es threads t fs request due ready).plain
        (subst (λ (g : StepFault). Ends o.launch 0 s.machine.acts t request (stepped.Over g))
        sink
        (ends (stepped.Over f) x none 0)).0)
        before after go

    -- ---- neither image nor sink

    -- a step makes no call of the image
    pub stepped-image : (result : Stepped) → StepsTo set t request result s new → IsNoStore result
        → SameImage (memory_of s.machine) (memory_of new.machine)
    stepped-image (stepped.Did operation r) x none = (does-stay s.machine.spaces new.machine.spaces es operation r
        due.running.keeps.heap.whole x.heap).image
    stepped-image (stepped.Waits on) x none = (stays s.machine.spaces new.machine.spaces x.heap).image
    stepped-image stepped.Wrong x none = (stays s.machine.spaces new.machine.spaces x.heap).image
    stepped-image (stepped.Over f) x none = (stays s.machine.spaces new.machine.spaces x.heap).image

    -- a step that doesn't answer prints nothing
    pub stepped-silent : (result : Stepped) → StepsTo set t request result s new
        → IsUnanswered (event_of request result) → IsSilent request
    stepped-silent (stepped.Did operation r) x un = absurd un
    stepped-silent (stepped.Waits on) x un = waits-silent set (world_of [] (shown_in s.machine) s.machine.rest) t
        (shown_in s.machine).number request on ((x.step.follows []).0 1)
    stepped-silent stepped.Wrong x un = absurd un
    stepped-silent (stepped.Over f) x un = absurd un
