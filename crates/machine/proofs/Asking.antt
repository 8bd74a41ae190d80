-- What is asked before a store, and how the conversion of that begins.
use Rattle.std.proofs.Common.{◌≡◌, inl, inr, ℕ, ◌-◌, ◌<◌, List, [], ◌∷◌, ◌++◌, length, Some, refl, sym, ◌∙◌, ap, subst}
use Rattle.std.proofs.Common.{◌≢◌, ◌+◌, ◌≤◌}
use Rattle.std.proofs.Common.{arith}
use Rattle.ap_base.specs.References.{reference_word}
use Rattle.ap_base.specs.declared.place.Place.{Place}
use Rattle.ap_base.specs.declared.reference.Ref.{Ref}
use Rattle.ap_base.specs.declared.reference.Item.{Item}
use Rattle.graph_model.specs.declared.types.Value.{Value}
use Rattle.graph_model.specs.declared.types.Value.TheVariants.{Obj as Object}
use Rattle.natives.specs.declared.requests.Request.{Request}
use Rattle.run_history.specs.declared.act.Op.TheVariants as op
use Rattle.run_history.specs.Recorded.{History, Recorded, with_act}
use Rattle.run_history.specs.Knowing.{Pending, pending_of}
use Rattle.plain_model.specs.Facts.{SetFacts}
use Rattle.shared_objects.specs.Shown.{item_value, number_value}
use Rattle.run_forms.specs.Views.{ThreadFrames}
use Rattle.twin_forms.specs.Table.{Entry}
use Rattle.line_memory.specs.Memory.{Memory}
use Rattle.shared_objects.specs.declared.rest.Rest.{Rest}
use Rattle.twin_forms.specs.Sights.{Twin, view_of}
use Rattle.two_spaces.specs.Seen.{number_in, Spaces, shown_of}
use Rattle.two_spaces.specs.Whole.{Stands}
use Rattle.two_spaces.proofs.Numbering.{named_number, number_named}
use Rattle.twin_forms.proofs.Tables.{alike}
use Rattle.convert_waits.specs.Rows.{HasNothing}
use Rattle.convert_waits.proofs.Rows.{beginnings_need}
use Rattle.convert_words.specs.Scenes.{AgreesAt}
use Rattle.convert_queue.specs.declared.phase.Phase.TheVariants.{Copy, Flush}
use Rattle.converter.specs.Beginning.{BeginsByNeed, IsAsked}
use Rattle.converter.specs.Laws.{AreUnwritten}
use Rattle.std.proofs.lemmas.List.{get_or-set_same, get_or_past}
use Rattle.std.proofs.lemmas.Bool.{cases_lt}
use Rattle.convert_queue.specs.Queues.{Queued, phase_of, queue_of, total, Queues}
use Rattle.converter.specs.declared.begin.Begun.{Begun}
use Rattle.converter.specs.declared.begin.Begun.TheVariants as begun
use Rattle.machine_threads.specs.Passed.{Doing}
use Rattle.machine_threads.specs.Passed.{Nothing, Converting}
use Rattle.machine_threads.specs.Passed.{Opening, Machine, doing_of, known_in, layout_in, memory_of, scene_of, log_of, shown_in}
use Rattle.machine_threads.specs.Passed.{IsDoing}
use Rattle.machine_threads.specs.Passed.{AsksFor, BeginsOn, act_in, value_in, with_asked}
use Rattle.machine_threads.specs.Passed.{IsReady}
use Rattle.machine_threads.specs.Passed.{StoresFreely}
use Rattle.object_steps.specs.declared.storing.Store.{Store}
use Rattle.object_steps.specs.Stores.{place_of}
use Rattle.shared_heap.specs.Passed.{ConvertsFirst, IsReady as IsReadyFor}
use Rattle.shared_heap.specs.Passed.{Asks}
use Rattle.shared_heap.specs.Passed.{IsApart}
use Rattle.shared_heap.specs.Shared.{Shared}
use Rattle.shared_heap.specs.Conversions.{BeginsOnce, Converts, HasBegun}
use Rattle.shared_heap.specs.Requests.{AsksTo, value_stored}
use Rattle.machine.specs.declared.events.Event.TheVariants.{Micro}
use Rattle.machine.specs.Ended.{HasPlanned, StoreComesTo}
use Rattle.machine.specs.Events.{Comes, AsksOn}
use Rattle.machine.specs.Laws.{Laws}
use Rattle.machine.specs.Running.{HadNoFault}
use Rattle.machine.proofs.Awaiting.{awaits-idle, awaits-nothing}
use Rattle.machine.proofs.Basics.{doing-set, not-longer, shared-is}
use Rattle.machine.proofs.Bound.{act-bound, quiet-bound}
use Rattle.machine.proofs.Faults.{none-more}
use Rattle.machine.proofs.Freely.{freely-volatile}
use Rattle.machine.proofs.Leaving.{logs-same, few, goes-on, same-room, same-size, happened, as-they-were, Kept, asks-by, converts-now}
use Rattle.machine.proofs.Memory.{same-image}
use Rattle.machine.proofs.Planned.{is-store, same-value, to-hold, waits-none}
use Rattle.machine_threads.specs.Happening as event
use Rattle.machine.proofs.Needing.{NeedsBy, NeedsFirst}
use Rattle.machine.proofs.Queued.{begun-queued}
use Rattle.machine_threads.specs.Keeping.{LagsByItsStore}
use Rattle.shared_heap.specs.Notes.{ThreadNotes}
use Rattle.std.specs.Prelude.{slice_index}
use Rattle.step_forms.specs.Becomes.{AsksStore}
use Rattle.machine.proofs.Leaving.{AsksStill}

-- a ready thread that isn't converting is about nothing
abbrev pub IsReadyToAsk : Shared → ℕ → Type 0
IsReadyToAsk s t = doing_of s.machine t ≡ Converting → ⊥

nothing-of : (d : Doing) → IsReady d → (d ≡ Converting → ⊥) → d ≡ Nothing
nothing-of d (inl is) not = is
nothing-of d (inr is) not = absurd (not is)

module _ (laws : Laws) (o : Opening) (first : ℕ) (set : SetFacts) (s : Shared) (es : List Entry)
    (threads : List ThreadFrames) (t : ℕ) (fs : ThreadFrames) (request : Request Ref Item) (store : Store)
    (h : HasPlanned o first set s es threads t fs request store)
    (free : StoresFreely o s.machine t (place_of store.target) (value_in s.machine store.kept))
    (room : length s.history.acts < s.history.limit) where
  abbrev goal : Place
  goal = place_of store.target

  abbrev value : Value
  value = value_in s.machine store.kept

  -- ---- what is asked

  module _ (object : Ref) (nothing : doing_of s.machine t ≡ Nothing)
      (convert : ConvertsFirst s.machine.spaces es store object) (new : Shared)
      (x : AsksTo t goal (value_stored s store) s new) where
    asks : Asks o s.machine es store
    asks = laws.barriers.asked o s.machine es h.due.running.keeps store object convert

    asks-for : AsksFor o s.machine es t request goal store.kept
    asks-for = record {
      thread = h.due.thread;
      doing = nothing;
      stores = is-store laws o first set s es threads t fs request store h;
      object = asks.object;
      value = asks.value;
      volatile = asks.volatile;
      holder = asks.holder;
    }

    abbrev act : Recorded
    act = act_in s.machine t (op.Asked goal value) []

    abbrev asked_now : Shared
    asked_now = record {
      machine = with_asked s.machine t goal value;
      history = with_act s.history act.act;
      lines = s.lines;
      notes = s.notes;
    }

    asked-is : new ≡ asked_now
    asked-is = shared-is new _ _ _ _ x.machine x.history x.lines x.notes

    asked-comes : Comes o first es threads t fs request Micro s asked_now
    asked-comes =
        let still : AsksStill o asked_now.machine t fs = record {
          lags = subst (λ d. LagsByItsStore o.launch d fs)
              (sym (doing-set s.machine.doing t Converting h.due.thread h.due.running.keeps.asked.threads)) tt;
          logs = (h.due.running.all.each t fs h.due.asks.frames).logs;
        } in
        let now = happened laws o first set s es threads t fs request h.due
        (event.asked request goal store.kept asks-for) [] h.due.asks tt
        (to-hold laws o s.machine es h.due.running.keeps goal convert.holder)
        (as-they-were laws o first set s es threads t fs request h.due asked_now.machine still) in record {
          goes = record {
            after = es;
            runs = goes-on laws o first set s es threads t fs request h.due asked_now es threads (record {
              kept = now;
              many = h.due.running.many;
              lines = refl;
              acts = ap (λ (xs : List Recorded). xs ++ act ∷ []) h.due.running.acts;
              limit = refl;
              unnamed = h.due.running.unnamed;
              room = same-room laws o first set s es threads t fs request h.due asked_now es now.keeps refl refl refl;
              numbers = refl;
              unfaulted = none-more o.launch s.machine.acts act h.due.running.unfaulted (λ lines.
                  laws.ends.stores_meet o s.machine es threads h.due.running.keeps h.due.running.plain
                  lines t fs request goal store.kept h.ready h.due.asks
                  (is-store laws o first set s es threads t fs request store h)
                  free (few laws o first set s es threads t fs request h.due room));
            });
            own = λ gs q asks. asks;
            others = now.others;
          };
          acts = inr (record { act = act; thread = refl; acts = refl });
          calls = inl (same-image (memory_of s.machine) (memory_of s.machine) refl);
          cause = refl;
          answers = tt;
          finds = λ logs. waits-none laws o first set s es threads t fs request store h;
          awaits = awaits-nothing o s.machine t nothing Micro;
          numbers = refl;
          quiet = λ micro same. not-longer s.history.acts act same;
          waits = λ on no. absurd (let e = no in cc);
          work = act-bound s asked_now Micro act refl (let same = laws.work.asked o s.machine es h.due.running.keeps
              h.due.running.unwritten t request goal store.kept asks-for in omega (arith, same));
          asks = refl;
          noted = refl;
        }

    pub asked-store : Comes o first es threads t fs request Micro s new
    asked-store = subst (Comes o first es threads t fs request Micro s) (sym asked-is) asked-comes

  -- ---- the conversion begins

  module _ (object : Ref) (converting : doing_of s.machine t ≡ Converting)
      (convert : ConvertsFirst s.machine.spaces es store object) (idle : HasBegun (scene_of s.machine) t → ⊥)
      (new : Shared) where
    abbrev number : ℕ
    number = convert.item.number

    value-is : value ≡ Object number
    value-is = ap (item_value (number_in (view_of s.machine.spaces.twin))) convert.item.reference
        ∙ ap number_value (named_number (view_of s.machine.spaces.twin) es number object
        h.due.running.keeps.heap.whole.lies convert.item.asked.there convert.item.asked.names)

    doing-now : IsDoing (known_in o s.machine) (layout_in o es) t Converting
    doing-now = subst (IsDoing (known_in o s.machine) (layout_in o es) t) converting
        (h.due.running.keeps.asked.doing t)

    pending-now : (p : Pending) × (pending_of (known_in o s.machine).asked t ≡ Some p) × (p.value ≡ Object
        number)
    pending-now = (
      doing-now.0.0,
      doing-now.0.1,
      same-value laws o first set s es threads t fs request store h doing-now.0.0 doing-now.0.1 ∙ value-is,
    )

    empty : (xs : List Queued) → (xs ≢ [] → ⊥) → xs ≡ []
    empty [] none = refl
    empty (x ∷ xs) none = absurd (none (λ e. let no = e in cc))

    pub idle-queue : queue_of s.machine.queue t ≡ []
    idle-queue = empty (queue_of s.machine.queue t) (λ some. idle (inl some))

    module _ (answer : Begun) (b : BeginsOnce t number answer s new es) where
      pub begins-on : BeginsOn t number (reference_word object) answer o s.machine new.machine es b.after
      begins-on = record {
        thread = h.due.thread;
        doing = converting;
        pending = pending-now;
        asked = convert.item.asked;
        idle = idle-queue;
        begins = b.begins;
        same = b.same;
        sound = b.sound;
        monitors = b.monitors;
      }

      pub acts-same : new.machine.acts ≡ s.machine.acts
      acts-same = ap (λ (m : Machine). m.acts) b.same

      doing-same-now : doing_of new.machine t ≡ Converting
      doing-same-now = ap (λ (m : Machine). doing_of m t) b.same ∙ converting

      pub begun-keeps : Kept o first t s.machine new.machine es b.after threads threads
      begun-keeps = happened laws o first set s es threads t fs request h.due
          (event.begun new.machine b.after number (reference_word object) answer begins-on) [] h.due.asks.frames tt tt
          (as-they-were laws o first set s es threads t fs request h.due new.machine (record {
            lags = subst (λ d. LagsByItsStore o.launch d fs) (sym doing-same-now) tt;
            logs = logs-same laws o first set s es threads t fs request h.due new.machine
                (ap (λ (m : Machine). m.logs) b.same);
          }))

      -- Where no more is claimed and named than there is room for, the thread asks on.
      pub begun-asks : total new.machine.queue.queues + ((memory_of new.machine).size - new.machine.free)
          ≤ new.history.room → AsksOn o first s new es threads t
      begun-asks room = record {
        after = b.after;
        runs = goes-on laws o first set s es threads t fs request h.due new b.after threads (record {
          kept = begun-keeps;
          many = h.due.running.many ∙ sym (ap (λ (r : Rest). length r.threads) b.monitors);
          lines = b.converts.lines ∙ same-size laws o first set s es threads t fs request h.due new.machine b.after
              begun-keeps.keeps ∙ sym h.due.running.lines;
          acts = ap (λ (y : History). y.acts) b.history ∙ h.due.running.acts ∙ sym acts-same;
          limit = ap (λ (y : History). y.limit) b.history;
          unnamed = b.converts.unnamed;
          room = room;
          numbers = ap (λ (m : Machine). m.spaces.numbers) b.same;
          unfaulted = subst (HadNoFault o.launch) (sym acts-same) h.due.running.unfaulted;
        });
        own = asks-by o s.machine new.machine threads t (ap (λ (r : Rest). r.threads) b.monitors);
        others = begun-keeps.others;
      }

    -- ---- a claim

    module _ (b : BeginsOnce t number begun.Claimed s new es) where
      claim-room : total new.machine.queue.queues + ((memory_of new.machine).size - new.machine.free)
          ≤ new.history.room
      claim-room =
          let size = same-size laws o first set s es threads t fs request h.due new.machine b.after
          (begun-keeps begun.Claimed b).keeps in
          let room_is = ap (λ (y : History). y.room) b.history in
          let free = b.begins.says.free in
          let fits = b.begins.says.fits in
          let queued = begun-queued (scene_of s.machine) (scene_of new.machine) es b.after t number h.due.thread
          h.due.running.keeps.heap.agrees.sizes.queues b.begins.says in
          let before = h.due.running.room in
          omega (arith, size, room_is, free, fits, queued, before)

      pub claimed-comes : Comes o first es threads t fs request Micro s new
      claimed-comes = record {
        goes = begun-asks begun.Claimed b claim-room;
        acts = inl (ap (λ (y : History). y.acts) b.history);
        calls = inl (same-image (memory_of s.machine) (memory_of new.machine) b.begins.memory);
        cause = ap (λ (m : Memory). m.faults) b.begins.memory;
        answers = tt;
        finds = λ logs. waits-none laws o first set s es threads t fs request store h;
        awaits = awaits-idle o s.machine t idle Micro;
        numbers = ap (λ (m : Machine). m.spaces.numbers) b.same;
        quiet = λ micro same. (let less = laws.measure.begins o s.machine es h.due.running.keeps
            h.due.running.unwritten new.machine b.after t number (reference_word object) begun.Claimed
            (begins-on begun.Claimed b) in
            omega (arith, less));
        waits = λ on no. absurd (let e = no in cc);
        work = quiet-bound s new (laws.work.begins o s.machine es h.due.running.keeps h.due.running.unwritten
            new.machine b.after t number (reference_word object) begun.Claimed (begins-on begun.Claimed b));
        asks = ap (λ (y : ThreadNotes). y.asks) b.notes;
        noted = ap (λ (y : ThreadNotes). y.waits) b.notes;
      }

    -- ---- a need

    module _ (u : ℕ) (b : BeginsOnce t number (begun.Needs u) s new es)
        (all : (table : List Entry) → Converts s table → IsAsked table (reference_word object) number
        → BeginsOnce t number (begun.Needs u) s new table) where
      need-room : total new.machine.queue.queues + ((memory_of new.machine).size - new.machine.free)
          ≤ new.history.room
      need-room =
          let size = same-size laws o first set s es threads t fs request h.due new.machine b.after
          (begun-keeps (begun.Needs u) b).keeps in
          let room_is = ap (λ (y : History). y.room) b.history in
          let free = b.begins.says.free in
          let queued : total new.machine.queue.queues ≡ total s.machine.queue.queues
          = ap (λ (q : Queues). total q.queues) b.begins.says.queue in
          let before = h.due.running.room in
          omega (arith, size, room_is, free, queued, before)

      same-spaces : new.machine.spaces ≡ s.machine.spaces
      same-spaces = ap (λ (m : Machine). m.spaces) b.same
          ∙ ap (λ (x : Twin). record s.machine.spaces { twin = x }) b.begins.says.heap

      needs-asks : AsksOn o first s new es threads t
      needs-asks = begun-asks (begun.Needs u) b need-room

      planned-still : HasPlanned o first set new b.after threads t fs request store
      unfolding needs-asks begun-asks
      planned-still = record {
        due = record {
          running = needs-asks.runs;
          asks = needs-asks.own fs request h.due.asks;
          thread = h.due.thread;
          made = λ class is. subst (λ (x : Spaces). slice_index x.numbers class < length o.directory.shapes)
              (sym same-spaces) (h.due.made class is);
          facts = h.due.facts;
        };
        ready = inr (doing-same-now (begun.Needs u) b);
        idle = ap (λ (m : Machine). (log_of m t).underway) b.same ∙ h.idle;
        planned = record {
          asks = subst (λ (r : Rest). AsksStore set (shown_in new.machine) r t request goal store.kept)
              (sym b.monitors)
              (subst (λ (x : Spaces). AsksStore set (shown_of x) s.machine.rest t request goal store.kept)
              (sym same-spaces) h.planned.asks);
          ready = subst (λ (x : Spaces). IsReadyFor x store) (sym same-spaces) h.planned.ready;
        };
        gives = h.gives;
      }

      -- ---- by each table

      none-here : (table : List Entry) → AgreesAt (scene_of s.machine) table → HasNothing table t
      none-here table agrees n claimed =
          let there = agrees.queued.all t n claimed in
          let within = there.1.within in let none = ap length idle-queue in absurd (omega (arith, within, none))

      asked-here : (table : List Entry) → AgreesAt (scene_of s.machine) table
          → IsAsked table (reference_word object) number
      asked-here table agrees =
          let view = view_of s.machine.spaces.twin in
          let lies = h.due.running.keeps.heap.whole.lies in
          let own = convert.item.asked in
          let here = number_named view table number object agrees.lies
          (named_number view es number object lies own.there own.names) in
          let same = alike view es table number lies agrees.lies own.there in record {
            there = here.0;
            names = here.1;
            outside = λ inside. own.outside (own.there, subst (λ x. 1 < x) same.stage inside.1, sym same.owner ∙ inside.2);
          }

      needs-by : (table : List Entry) → AgreesAt (scene_of s.machine) table → AreUnwritten s.machine.queue table
          → NeedsBy t s.machine new.machine table
      needs-by table agrees unwritten =
          let own = converts-now laws o first set s es threads t fs request h.due in
          let now : Converts s table = record {
            agrees = agrees;
            unwritten = unwritten;
            unnamed = own.unnamed;
            lines = own.lines;
            within = own.within;
            sound = own.sound;
          } in
          let by = all table now (asked-here table agrees) in
          let same : by.after ≡ table = by.begins.says.table in record {
            begins = beginnings_need (scene_of s.machine) (scene_of new.machine) table t number u
                (none-here table agrees)
                (subst (λ x. BeginsByNeed (scene_of s.machine) (scene_of new.machine) table x t number u) same
                by.begins.says);
            agrees = subst (AgreesAt (scene_of new.machine)) same by.begins.agrees;
            unwritten = subst (AreUnwritten new.machine.queue) same by.converts.unwritten;
          }

      -- whoever has claimed an object has queued it, and is one of the 64
      below : u < 64
      below = elim (cases_lt u 64) [
        | inl under ↦ under
        | inr past ↦ (let agrees = h.due.running.keeps.heap.agrees in
            let there = agrees.queued.all u number b.begins.says.claimed in
            let within = there.1.within in let long = agrees.sizes.queues in
            let none = ap length (get_or_past s.machine.queue.queues u [] (omega (arith, long, past))) in
            absurd (omega (arith, within, none)))
      ]

      pub begun-now : HasBegun (scene_of new.machine) t
      begun-now =
          let says = b.begins.says in
          let flush : phase_of new.machine.queue t ≡ Flush
          = ap (λ (q : Queues). phase_of q t) says.queue
          ∙ get_or-set_same s.machine.queue.phases t Flush Copy
          (let long = h.due.running.keeps.heap.agrees.sizes.phases in
          let thread = h.due.thread in omega (arith, long, thread)) in
          inr (flush, u, below, says.other, says.here)

      pub needs-first : NeedsFirst o first set s new es threads t fs request store
      unfolding needs-asks begun-asks
      needs-first = record {
        asks = needs-asks;
        planned = planned-still;
        history = b.history;
        notes = b.notes;
        acts = acts-same (begun.Needs u) b;
        idle = idle;
        converting = doing-same-now (begun.Needs u) b;
        begun = begun-now;
        needs = needs-by;
        states = ap (λ (r : Rest). r.threads) b.monitors;
        memory = b.begins.memory;
        numbers = ap (λ (x : Spaces). x.numbers) same-spaces;
        free = b.begins.says.free;
        work = (let less = laws.work.begins o s.machine es h.due.running.keeps
            h.due.running.unwritten new.machine b.after t number (reference_word object) (begun.Needs u)
            (begins-on (begun.Needs u) b) in
            let free = b.begins.says.free in omega (arith, less, free));
      }

-- ---- of each run

pub asked-comes-to : Laws → (s new : Shared) (t : ℕ) (store : Store) (object : Ref)
    → IsApart s.machine.spaces s.machine.logs t (place_of store.target)
    → length s.history.acts < s.history.limit → IsReadyToAsk s t
    → ((es : List Entry) → Stands s.machine.spaces es → ConvertsFirst s.machine.spaces es store object)
    → AsksTo t (place_of store.target) (value_stored s store) s new → StoreComesTo t store Micro s new
asked-comes-to laws s new t store object apart room nothing convert x = record {
  comes = λ o first set es threads fs request h. asked-store laws o first set s es threads t fs request store h
      (freely-volatile laws o first set s es threads t fs request store h apart object
      (convert es h.due.running.keeps.heap.whole)) room object
      (nothing-of (doing_of s.machine t) h.ready nothing) (convert es h.due.running.keeps.heap.whole) new x;
  sink = record { acts = inr (_, ap (λ (y : History). y.acts) x.history, tt); fault = tt };
}
