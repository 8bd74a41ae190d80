-- Stores before which nothing is to be converted.
use Rattle.std.proofs.Common.{◌≡◌, ◌⊎◌, inl, inr, ℕ, zero, suc, ◌<◌, Bool, true, false, List, [], ◌∷◌, ◌++◌, length}
use Rattle.std.proofs.Common.{Option, Some, None, refl, sym, ◌∙◌, ap, subst, arith}
use Rattle.std.specs.Prelude.{slice_index_or, slice_set}
use Rattle.ap_base.specs.declared.place.Place.{Place}
use Rattle.ap_base.specs.declared.place.Place.TheVariants as place
use Rattle.ap_base.specs.declared.reference.Ref.{Ref}
use Rattle.ap_base.specs.declared.reference.Item.{Item}
use Rattle.monitors.specs.Indexed.{AreSound}
use Rattle.natives.specs.declared.requests.Request.{Request}
use Rattle.natives.specs.declared.requests.Reply.TheVariants as reply
use Rattle.run_history.specs.declared.act.Op.{Op}
use Rattle.run_history.specs.declared.act.Op.TheVariants as op
use Rattle.run_history.specs.Recorded.{History, Recorded}
use Rattle.run_history.specs.Knowing.{durable_at}
use Rattle.plain_model.specs.Facts.{SetFacts}
use Rattle.run_forms.specs.Views.{ThreadFrames}
use Rattle.run_forms.specs.Ends.{MeetsNoFault}
use Rattle.stop_theorem.specs.InvariantEvents.{line_at}
use Rattle.twin_forms.specs.Table.{Entry, entry, line_of}
use Rattle.two_spaces.specs.Whole.{Stands}
use Rattle.machine_threads.specs.Passed.{Doing}
use Rattle.machine_threads.specs.Passed.{Nothing, Writing}
use Rattle.region_log.specs.Log.{Log}
use Rattle.machine_threads.specs.Passed.{Opening, Machine, doing_of, empty_log, known_in, layout_in, log_of}
use Rattle.machine_threads.specs.Passed.{ActsBeside, DoesRequest, RegionStep, StoresBeside, StoresDurably, StoresLogged, act_in}
use Rattle.machine_threads.specs.Passed.{NotesStore, value_in}
use Rattle.machine_threads.specs.RegionEvents as region
use Rattle.machine_threads.specs.Passed.{StoresFreely, beside, own}
use Rattle.object_steps.specs.declared.storing.Store.{Store}
use Rattle.object_steps.specs.Stores.{place_of}
use Rattle.shared_heap.specs.Passed.{HoldsDurable, IsDurablePlace, IsLineOf, MayFollow}
use Rattle.shared_heap.specs.Passed.{HasLogged, IsApart, IsLineLeft}
use Rattle.shared_heap.specs.Shared.{Shared}
use Rattle.shared_heap.specs.Requests.{IsPlannedFor, StoresTo, doing_stored}
use Rattle.machine.specs.declared.events.Event.{Event}
use Rattle.machine.specs.declared.events.Event.TheVariants.{Did, Micro}
use Rattle.machine.specs.Ended.{HasPlanned, StoreComesTo}
use Rattle.machine.specs.Events.{Comes, IsNoSinkFault}
use Rattle.machine.specs.Laws.{Laws}
use Rattle.machine.specs.Running.{HadNoFault}
use Rattle.machine.proofs.Awaiting.{awaits-free}
use Rattle.machine.proofs.Basics.{doing-set, no-some, not-longer, some-same}
use Rattle.machine.proofs.Bound.{act-bound, act-measured}
use Rattle.machine.proofs.Doing.{answers}
use Rattle.machine.proofs.Faults.{none-more}
use Rattle.machine.proofs.Freely.{freely-outside, true-or-false}
use Rattle.machine.proofs.Leaving.{logs-idle, logs-same, few, happened, as-they-were, stays-on, Kept, as-answered, answered-on}
use Rattle.machine.proofs.Memory.{does-stay}
use Rattle.machine.proofs.Planned.{asks-store, is-free, is-store, kept-durable, waits-none}
use Rattle.machine.proofs.Steps.{given-whole}
use Rattle.machine_threads.specs.Happening as event
use Rattle.graph_model.specs.declared.types.Value.{Value}
use Rattle.machine_threads.specs.Passed.{KeepsRun}
use Rattle.machine_threads.proofs.Passed.{in-durable}
use Rattle.machine_threads.proofs.Passed.{copied-there}
use Rattle.two_spaces.proofs.Keeping.{copied_or_not}
use Rattle.convert_queue.specs.Queues.{Queues, total}
use Rattle.frames.specs.Turns.{answer, turn}
use Rattle.machine_threads.specs.Passed.{Begins}
use Rattle.machine_threads.specs.Keeping.{LagsByItsStore}
use Rattle.run_forms.specs.Laws.{answered_threads}
use Rattle.run_forms.specs.Standing.{setting_of}
use Rattle.shared_heap.specs.Notes.{ThreadNotes}
use Rattle.machine.proofs.Leaving.{AsksStill}

-- A store elsewhere than to a durable place leaves as many objects queued as were.
noted-queued : (o : Opening) (m : Machine) (es : List Entry) (k : KeepsRun o m es) (place : Place) (value : Value)
    (q : Queues) → StoresBeside o m es (op.Stored place value) → NotesStore es (op.Stored place value) m.queue q
    → total q.queues ≡ total m.queue.queues
noted-queued o m es k (place.Static f) value q elsewhere notes = ap (λ (q : Queues). total q.queues) notes
noted-queued o m es k (place.Slot n i) value q elsewhere notes = elim (copied_or_not (entry es n) (line_of i)) [
  | inr not_copied ↦ ap (λ (q : Queues). total q.queues) (notes.1 not_copied)
  | inl copied ↦ (elim (copied-there o m es k n (line_of i) copied) [
    | inl p ↦ absurd (let no : false ≡ true = sym elsewhere.0 ∙ in-durable o m es k n p in cc)
    | inr c ↦ ap (λ (q : Queues). total q.queues) (notes.0 c.0 c.1 copied)
  ])
]

module _ (laws : Laws) (o : Opening) (first : ℕ) (set : SetFacts) (s : Shared) (es : List Entry)
    (threads : List ThreadFrames) (t : ℕ) (fs : ThreadFrames) (request : Request Ref Item) (store : Store)
    (h : HasPlanned o first set s es threads t fs request store)
    (apart : IsApart s.machine.spaces s.machine.logs t (place_of store.target))
    (follows : MayFollow s.machine.spaces store) (line : Option ℕ) (new : Shared)
    (x : StoresTo t store line s new) (room : length s.history.acts < s.history.limit)
    (free : StoresFreely o s.machine t (place_of store.target) (value_in s.machine store.kept)) where
  abbrev goal : Place
  goal = place_of store.target

  abbrev operation : Op
  operation = op.Stored goal (value_in s.machine store.kept)

  abbrev act : Recorded
  act = act_in s.machine t operation []

  planned : IsPlannedFor o.launch.set t request store s
  planned = record {
    asks = asks-store laws o first set s es threads t fs request store h;
    ready = h.planned.ready;
  }

  new-acts : new.history.acts ≡ s.history.acts ++ act ∷ []
  new-acts = ap (λ (y : History). y.acts) x.history

  machine-acts : new.machine.acts ≡ s.machine.acts ++ act ∷ []
  machine-acts = ap (λ (m : Machine). m.acts) x.machine ∙ new-acts
      ∙ ap (λ (xs : List Recorded). xs ++ act ∷ []) h.due.running.acts

  same-acts : new.history.acts ≡ new.machine.acts
  same-acts = sym (ap (λ (m : Machine). m.acts) x.machine)

  same-threads : new.machine.rest.threads ≡ s.machine.rest.threads
  same-threads = ap (λ (m : Machine). m.rest.threads) x.machine

  new-doing : new.machine.doing ≡ slice_set s.machine.doing t (doing_stored line)
  new-doing = ap (λ (m : Machine). m.doing) x.machine

  same-logs : new.machine.logs ≡ s.machine.logs
  same-logs = ap (λ (m : Machine). m.logs) x.machine

  does : DoesRequest o s.machine new.machine es t request operation reply.Done
  does = record {
    thread = h.due.thread;
    fit = (is-store laws o first set s es threads t fs request store h).fit;
    doing = is-free laws o first set s es threads t fs request store h follows;
    step = x.step o.launch.set request planned;
    heap = (store.kept, refl, x.heap);
    sound = subst (λ (m : Machine). AreSound m.rest.monitors) (sym x.machine)
        h.due.running.keeps.heap.sound;
    free = ap (λ (m : Machine). m.free) x.machine;
    acts = machine-acts;
  }

  meets : (lines : ℕ) → MeetsNoFault o.launch lines s.machine.acts t
  meets lines = laws.ends.stores_meet o s.machine es threads h.due.running.keeps
      h.due.running.plain
      lines t fs request goal store.kept h.ready h.due.asks
      (is-store laws o first set s es threads t fs request store h) free
      (few laws o first set s es threads t fs request h.due room)

  -- ---- to a place that isn't durable

  module _ (elsewhere : durable_at (known_in o s.machine) goal ≡ false) (none : line ≡ None) where
    beside-at : (place : Place) → place ≡ goal → StoresBeside o s.machine es (op.Stored place (value_in
        s.machine
        store.kept))
    beside-at (place.Static f) is = subst (λ (p : Place). durable_at (known_in o s.machine) p ≡ false) (sym
        is)
        elsewhere
    beside-at (place.Slot n i) is = (
      subst (λ (p : Place). durable_at (known_in o s.machine) p ≡ false) (sym is) elsewhere,
      λ copied. laws.barriers.durable o s.machine es h.due.running.keeps store follows
          (subst (HoldsDurable s.machine.spaces es) is (inr (line_of i, copied))),
    )

    acts-beside : ActsBeside o s.machine new.machine es t request operation reply.Done
    acts-beside = record {
      does = does;
      outside = tt;
      beside = beside-at goal refl;
      notes = x.notes es h.due.running.keeps.heap.whole;
      logs = same-logs;
      listed = tt;
      doing = new-doing ∙ ap (λ (l : Option ℕ). slice_set s.machine.doing t (doing_stored l)) none;
    }

    pub stored-beside : Comes o first es threads t fs request (Did reply.Done) s new
    stored-beside = answers laws o first set s es threads t fs request h.due new operation reply.Done acts-beside
        (record {
          idle = h.idle;
          left = refl;
          starts = λ none. refl;
          started = λ n child is. absurd (let no : operation ≡ op.Start n child = is in cc);
          meets = meets;
          lines = x.lines;
          history = same-acts;
          named = ap (λ (y : History). y.named) x.history;
          limit = ap (λ (y : History). y.limit) x.history;
          room = ap (λ (y : History). y.room) x.history;
          queued = noted-queued o s.machine es h.due.running.keeps goal (value_in s.machine store.kept)
              new.machine.queue (beside-at goal refl) (x.notes es h.due.running.keeps.heap.whole);
          asks = ap (λ (y : ThreadNotes). y.asks) x.noted;
          noted = ap (λ (y : ThreadNotes). y.waits) x.noted;
          whole = given-whole request h.gives;
          free = waits-none laws o first set s es threads t fs request store h;
        })

  -- ---- to a durable place, outside regions

  module _ (durable : durable_at (known_in o s.machine) goal ≡ true) (l : ℕ) (some : line ≡ Some l)
      (closed : (log_of s.machine t).depth ≡ 0) (is-line : IsLineOf s.machine.spaces es goal line) where
    durable-place : IsDurablePlace s.machine.spaces es goal
    durable-place = (laws.barriers.places o s.machine es h.due.running.keeps goal).0 durable

    line-is : l ≡ line_at (layout_in o es) (known_in o s.machine) goal
    line-is = some-same l _ (sym some ∙ is-line.durable durable-place)
        ∙ laws.barriers.lines o s.machine es h.due.running.keeps goal durable-place

    stores : StoresDurably o s.machine new.machine es t request goal store.kept
    stores = record {
      does = does;
      stores = x.heap;
      durable = durable;
      kept = kept-durable laws o first set s es threads t fs request store h follows durable;
      outside = closed;
      unguarded = laws.barriers.outside o s.machine es h.due.running.keeps t store h.planned.ready.can
          durable-place apart closed;
      logs = same-logs;
      queue = x.durable es h.due.running.keeps.heap.whole durable-place;
      doing = new-doing ∙ ap (λ (k : Option ℕ). slice_set s.machine.doing t (doing_stored k)) some
          ∙ ap (λ n. slice_set s.machine.doing t (Writing n)) line-is;
    }

    writing-now : doing_of new.machine t ≡ Writing l
    writing-now = ap (λ (ds : List Doing). slice_index_or ds t Nothing) new-doing
        ∙ doing-set s.machine.doing t (doing_stored line) h.due.thread h.due.running.keeps.asked.threads
        ∙ ap doing_stored some

    pub stored-durably : Comes o first es threads t fs request Micro s new
    stored-durably =
        let still : AsksStill o new.machine t fs = record {
          lags = subst (λ d. LagsByItsStore o.launch d fs) (sym writing-now) (request, h.due.asks.asks, h.gives);
          logs = logs-same laws o first set s es threads t fs request h.due new.machine same-logs;
        } in
        let now = happened laws o first set s es threads t fs request h.due
        (event.stored new.machine request goal store.kept stores) [] h.due.asks tt tt
        (as-they-were laws o first set s es threads t fs request h.due new.machine still) in
        let stays = does-stay s.machine.spaces new.machine.spaces es operation reply.Done
        h.due.running.keeps.heap.whole does.heap in record {
          goes = stays-on laws o first set s es threads t fs request h.due new es now same-threads does.free
              (ap (λ (q : Queues). total q.queues) stores.queue) same-acts
              (ap (λ (y : History). y.limit) x.history)
              (ap (λ (y : History). y.named) x.history ∙ h.due.running.unnamed)
              (ap (λ (y : History). y.room) x.history) x.lines stays.numbers
              (subst (HadNoFault o.launch) (sym machine-acts)
              (none-more o.launch s.machine.acts act h.due.running.unfaulted meets));
          acts = inr (record { act = act; thread = refl; acts = new-acts });
          calls = inl stays.image;
          cause = stays.image.faults;
          answers = tt;
          finds = λ logs. waits-none laws o first set s es threads t fs request store h;
          awaits = awaits-free o s.machine t es h.due.running.keeps.heap.agrees does.doing Micro;
          numbers = stays.numbers;
          quiet = λ micro same. not-longer s.history.acts act (sym new-acts ∙ same);
          waits = λ on no. absurd (let e = no in cc);
          work = act-bound s new Micro act new-acts (let two = laws.work.durable o s.machine es h.due.running.keeps
              h.due.running.unwritten new.machine t request goal store.kept stores now.keeps in omega (arith, two));
          asks = ap (λ (y : ThreadNotes). y.asks) x.noted;
          noted = ap (λ (y : ThreadNotes). y.waits) x.noted;
        }

  -- ---- to a durable place, in a region

  module _ (durable : durable_at (known_in o s.machine) goal ≡ true) (none : line ≡ None)
      (is_open : 0 < (log_of s.machine t).depth)
      (logged : HasLogged s.machine.spaces es s.machine.logs t goal) where
    kept-place : IsDurablePlace s.machine.spaces es goal
    kept-place = (laws.barriers.places o s.machine es h.due.running.keeps goal).0 durable

    logs-store : StoresLogged o s.machine new.machine es t request goal store.kept
    logs-store = record {
      does = does;
      stores = x.heap;
      durable = durable;
      kept = kept-durable laws o first set s es threads t fs request store h follows durable;
      idle = h.idle;
      guard = (laws.barriers.logged o s.machine es h.due.running.keeps t store h.planned.ready.can kept-place
          apart is_open logged).guard;
      queue = x.durable es h.due.running.keeps.heap.whole kept-place;
      logs = same-logs;
      doing = new-doing ∙ ap (λ (l : Option ℕ). slice_set s.machine.doing t (doing_stored l)) none;
    }

    abbrev region-step : RegionStep o t s.machine es new.machine
    region-step = region.stored new.machine request goal store.kept logs-store

    nothing-now : doing_of new.machine t ≡ Nothing
    nothing-now = ap (λ (ds : List Doing). slice_index_or ds t Nothing) new-doing
        ∙ doing-set s.machine.doing t (doing_stored line) h.due.thread h.due.running.keeps.asked.threads
        ∙ ap doing_stored none

    abbrev answer_now : ThreadFrames
    answer_now = answer (setting_of o.launch) (turn (setting_of o.launch) fs).frames reply.Done

    logged-keeps : Kept o first t s.machine new.machine es es threads
        (answered_threads o.launch threads t fs reply.Done [])
    logged-keeps = happened laws o first set s es threads t fs request h.due (event.region new.machine region-step) []
        h.due.asks tt tt (as-answered laws o first set s es threads t fs request h.due new.machine answer_now [] (record {
          lags = subst (λ d. LagsByItsStore o.launch d answer_now) (sym nothing-now) tt;
          logs = logs-idle o.launch new.machine t answer_now
              (ap (λ (logs : List Log). (slice_index_or logs t (empty_log t)).underway) same-logs ∙ h.idle);
        }))

    no-begun : (ope : Opening) (m' : Machine) (begun : List ThreadFrames) → Begins ope m' operation begun → begun ≡ []
    no-begun ope m' [] begins = refl
    no-begun ope m' (b ∷ bs) begins = absurd (let no = begins in cc)

    pub stored-logged : Comes o first es threads t fs request (Did reply.Done) s new
    stored-logged =
        let stays = does-stay s.machine.spaces new.machine.spaces es operation reply.Done
        h.due.running.keeps.heap.whole does.heap in record {
          goes = answered-on laws o first set s es threads t fs request h.due new es reply.Done act logged-keeps
              machine-acts (λ begun begins. no-begun o new.machine begun begins) refl
              (ap length same-threads) does.free (ap (λ (q : Queues). total q.queues) logs-store.queue) same-acts
              (ap (λ (y : History). y.limit) x.history)
              (ap (λ (y : History). y.named) x.history ∙ h.due.running.unnamed)
              (ap (λ (y : History). y.room) x.history) x.lines stays.numbers
              (subst (HadNoFault o.launch) (sym machine-acts)
              (none-more o.launch s.machine.acts act h.due.running.unfaulted meets)) nothing-now;
          acts = record { act = act; thread = refl; acts = new-acts };
          calls = inl stays.image;
          cause = stays.image.faults;
          answers = given-whole request h.gives;
          finds = waits-none laws o first set s es threads t fs request store h;
          awaits = awaits-free o s.machine t es h.due.running.keeps.heap.agrees does.doing (Did reply.Done);
          numbers = stays.numbers;
          quiet = λ micro same. absurd (let no = micro in cc);
          waits = λ on no. absurd (let e = no in cc);
          work = act-measured s new (logged-keeps.keeps.heap.size ∙ sym h.due.running.keeps.heap.size) does.free
              (Did reply.Done) act new-acts (let less = laws.work.guards.stored o s.machine es h.due.running.keeps
              h.due.running.unwritten new.machine t request goal store.kept logs-store logged-keeps.keeps in
              omega (arith, less));
          asks = ap (λ (y : ThreadNotes). y.asks) x.noted;
          noted = ap (λ (y : ThreadNotes). y.waits) x.noted;
        }

-- what a store comes to, by whether its line is to be written back next
abbrev pub stored_event : Option ℕ → Event
stored_event None = Did reply.Done
stored_event (Some line) = Micro

none-or-some : (n : ℕ) → (n ≡ 0) ⊎ (0 < n)
none-or-some zero = inl refl
none-or-some (suc n) = inr (omega arith)

module _ (laws : Laws) (o : Opening) (first : ℕ) (set : SetFacts) (s : Shared) (es : List Entry)
    (threads : List ThreadFrames) (t : ℕ) (fs : ThreadFrames) (request : Request Ref Item) (store : Store)
    (h : HasPlanned o first set s es threads t fs request store)
    (apart : IsApart s.machine.spaces s.machine.logs t (place_of store.target))
    (follows : MayFollow s.machine.spaces store) (new : Shared)
    (room : length s.history.acts < s.history.limit)
    (logged : HasLogged s.machine.spaces es s.machine.logs t (place_of store.target)) where
  abbrev IsDurableNow : Bool → Type 0
  IsDurableNow b = durable_at (known_in o s.machine) (place_of store.target) ≡ b

  place-now : IsDurableNow true → IsDurablePlace s.machine.spaces es (place_of store.target)
  place-now = (laws.barriers.places o s.machine es h.due.running.keeps (place_of store.target)).0

  has-guard : IsDurableNow true → 0 < (log_of s.machine t).depth
      → StoresFreely o s.machine t (place_of store.target) (value_in s.machine store.kept)
  has-guard durable is_open = own (laws.barriers.logged o s.machine es h.due.running.keeps t store
      h.planned.ready.can (place-now durable) apart is_open logged).guard

  abbrev Left : Option ℕ → Type 0
  Left line = IsLineLeft s.machine.spaces es s.machine.logs t (place_of store.target) line

  no-line : IsDurableNow true → (log_of s.machine t).depth ≡ 0 → Left None → ⊥
  no-line durable closed is = no-some _ ((is.outside closed).durable (place-now durable))

  pub stored : (line : Option ℕ) → Left line → StoresTo t store line s new
      → Comes o first es threads t fs request (stored_event line) s new
  stored None is x = elim (true-or-false (durable_at (known_in o s.machine) (place_of store.target))) [
    | inr elsewhere ↦ stored-beside laws o first set s es threads t fs request store h apart follows None new x room
        (beside elsewhere) elsewhere refl
    | inl durable ↦ (elim (none-or-some (log_of s.machine t).depth) [
      | inl closed ↦ absurd (no-line durable closed is)
      | inr is_open ↦ stored-logged laws o first set s es threads t fs request store h apart follows None new x room
          (has-guard durable is_open) durable refl is_open logged
    ])
  ]
  stored (Some l) is x = elim (none-or-some (log_of s.machine t).depth) [
    | inr is_open ↦ no-some l (sym (is.inside is_open))
    | inl closed ↦ (elim (true-or-false (durable_at (known_in o s.machine) (place_of store.target))) [
      | inl durable ↦ stored-durably laws o first set s es threads t fs request store h apart follows (Some l) new x room
          (freely-outside laws o first set s es threads t fs request store h apart closed) durable l refl closed
          (is.outside closed)
      | inr elsewhere ↦ no-some l (sym ((is.outside closed).other (λ place. absurd (let no : false
          ≡ true = sym elsewhere
          ∙ (laws.barriers.places o s.machine es h.due.running.keeps (place_of store.target)).1 place in cc))))
    ])
  ]

pub stored-comes : Laws → (s new : Shared) (t : ℕ) (store : Store) (line : Option ℕ)
    → IsApart s.machine.spaces s.machine.logs t (place_of store.target) → MayFollow s.machine.spaces store
    → ((es : List Entry) → Stands s.machine.spaces es
    → HasLogged s.machine.spaces es s.machine.logs t (place_of store.target))
    → ((es : List Entry) → Stands s.machine.spaces es
    → IsLineLeft s.machine.spaces es s.machine.logs t (place_of store.target) line)
    → StoresTo t store line s new → length s.history.acts < s.history.limit
    → StoreComesTo t store (stored_event line) s new
stored-comes laws s new t store line apart follows logged is x room = record {
  comes = λ o first set es threads fs request h. stored laws o first set s es threads t fs request store h apart follows new room
      (logged es h.due.running.keeps.heap.whole) line (is es h.due.running.keeps.heap.whole) x;
  sink = record { acts = inr (_, ap (λ (y : History). y.acts) x.history, tt); fault = spared line };
}
  where
    spared : (l : Option ℕ) → IsNoSinkFault (stored_event l)
    spared None = tt
    spared (Some l) = tt
