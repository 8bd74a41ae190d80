-- A claim that is refused for want of lines ends the run; and what begins so.
use Rattle.std.proofs.Common.{◌≡◌, inl, ℕ, ◌-◌, ◌<◌, List, length, None, sym, ap, subst}
use Rattle.ap_base.specs.References.{reference_word}
use Rattle.ap_base.specs.declared.reference.Ref.{Ref}
use Rattle.ap_base.specs.declared.reference.Item.{Item}
use Rattle.run_types.specs.declared.fault.Which.TheVariants as which
use Rattle.natives.specs.declared.requests.Request.{Request}
use Rattle.line_memory.specs.Memory.{Memory}
use Rattle.run_history.specs.Recorded.{History, Recorded}
use Rattle.plain_model.specs.Facts.{SetFacts}
use Rattle.plain_model.specs.Ends.{fault_after}
use Rattle.run_forms.specs.Views.{ThreadFrames}
use Rattle.run_forms.specs.Standing.{plain_code}
use Rattle.run_forms.specs.Ends.{IsEndedBy}
use Rattle.twin_forms.specs.Table.{Entry}
use Rattle.two_spaces.specs.Whole.{Stands}
use Rattle.converter.specs.Beginning.{IsAsked}
use Rattle.converter.specs.declared.begin.Begun.TheVariants as begun_as
use Rattle.machine_threads.specs.Passed.{Converting}
use Rattle.machine_threads.specs.Passed.{Opening, Machine, doing_of, memory_of, scene_of}
use Rattle.machine_threads.specs.Passed.{KeepsRun}
use Rattle.machine_threads.specs.Passed.{RunsAsPlain}
use Rattle.machine_threads.specs.Passed.{IsRefused, lines_fault, lines_from}
use Rattle.machine_threads.specs.Passed.{StoresFreely}
use Rattle.machine_threads.specs.Passed.{value_in}
use Rattle.object_steps.specs.declared.storing.Store.{Store}
use Rattle.object_steps.specs.Stores.{place_of}
use Rattle.shared_heap.specs.Passed.{ConvertsFirst}
use Rattle.shared_heap.specs.Passed.{IsApart}
use Rattle.shared_heap.specs.Shared.{Shared}
use Rattle.shared_heap.specs.Conversions.{BeginsOnce, HasBegun, Converts}
use Rattle.machine.specs.declared.events.Event.TheVariants.{Over, Micro}
use Rattle.machine.specs.declared.events.Halt.TheVariants.{Met}
use Rattle.machine.specs.Halts.{lacks}
use Rattle.machine.specs.Ended.{HasPlanned, HasSomePlanned, StoreComesTo}
use Rattle.machine.specs.Events.{Comes, IsOver}
use Rattle.machine.specs.Laws.{Laws}
use Rattle.machine.proofs.Asking.{acts-same, begins-on, claimed-comes, begun-keeps, needs-first}
use Rattle.machine.proofs.Freely.{freely-volatile}
use Rattle.machine.proofs.Leaving.{few, same-size, converts-now}
use Rattle.machine.proofs.Memory.{same-image}
use Rattle.machine.proofs.Planned.{is-store}
use Rattle.converter.specs.declared.begin.Begun.{Begun}
use Rattle.machine.proofs.Needing.{NeedsFirst}
use Rattle.shared_heap.specs.Notes.{ThreadNotes}

module _ (laws : Laws) (o : Opening) (first : ℕ) (set : SetFacts) (s : Shared) (es : List Entry)
    (threads : List ThreadFrames) (t : ℕ) (fs : ThreadFrames) (request : Request Ref Item) (store : Store)
    (h : HasPlanned o first set s es threads t fs request store)
    (free : StoresFreely o s.machine t (place_of store.target) (value_in s.machine store.kept))
    (room : length s.history.acts < s.history.limit) where
  none-met : (lines : ℕ)
      → fault_after o.launch.set o.launch.main o.launch.opening (plain_code o.launch) o.launch.limits lines
      s.machine.acts t
      ≡ None
  none-met lines = (laws.ends.stores_meet o s.machine es threads h.due.running.keeps
      h.due.running.plain lines t fs request _ store.kept h.ready h.due.asks
      (is-store laws o first set s es threads t fs request store h)
      free (few laws o first set s es threads t fs request h.due room)).1

  -- The run ends for want of lines.
  pub refused-ends : (need left : ℕ) → IsRefused o s.machine first t need left
      → IsEndedBy o.launch (lines_from s.machine first) s.machine.acts t (lines_fault need left)
  refused-ends need left refused =
      laws.ends.refusals o s.machine first t need left refused (none-met (lines_from s.machine first))

  pub refused-over : (need left : ℕ) (new : Shared) (es' : List Entry) → KeepsRun o new.machine es'
      → RunsAsPlain o new.machine threads → new.history ≡ s.history → new.machine.acts ≡ s.machine.acts
      → IsRefused o s.machine first t need left → IsOver o first (lines_fault need left) s new threads t
  refused-over need left new es' kept plain history acts refused = record {
    after = es';
    keeps = kept;
    plain = plain;
    history = history;
    acts = acts;
    ends = subst (λ (xs : List Recorded). IsEndedBy o.launch ((memory_of new.machine).size - first) xs t
        (lines_fault need left)) (sym acts)
        (subst (λ n. IsEndedBy o.launch (n - first) s.machine.acts t (lines_fault need left))
        (sym (same-size laws o first set s es threads t fs request h.due new.machine es' kept)) (refused-ends need left
        refused));
  }

  module _ (object : Ref) (converting : doing_of s.machine t ≡ Converting)
      (convert : ConvertsFirst s.machine.spaces es store object) (idle : HasBegun (scene_of s.machine) t → ⊥)
      (new : Shared) (need left : ℕ)
      (b : BeginsOnce t convert.item.number (begun_as.Full need left) s new es) where
    pub refused-comes : Comes o first es threads t fs request (Over (Met (lacks which.ImageLines need left))) s new
    refused-comes =
        let on = begins-on laws o first set s es threads t fs request store h free room object converting convert idle
        new (begun_as.Full need left) b in
        let same = acts-same laws o first set s es threads t fs request store h free room object converting convert
        idle new (begun_as.Full need left) b in
        let now = begun-keeps laws o first set s es threads t fs request store h free room object converting convert
        idle new (begun_as.Full need left) b in record {
          goes = refused-over need left new b.after now.keeps now.plain b.history same
              (laws.ends.refused_begins o s.machine es first h.due.running.keeps h.due.running.taken
              new.machine
              b.after t convert.item.number (reference_word object) need left on);
          acts = ap (λ (y : History). y.acts) b.history;
          calls = inl (same-image (memory_of s.machine) (memory_of new.machine) b.begins.memory);
          cause = ap (λ (m : Memory). m.faults) b.begins.memory;
          answers = tt;
          finds = tt;
          awaits = λ u w. tt;
          numbers = ap (λ (m : Machine). m.spaces.numbers) b.same;
          quiet = λ micro none. absurd (let no = micro in cc);
          waits = λ on no. absurd (let e = no in cc);
          work = tt;
          asks = ap (λ (y : ThreadNotes). y.asks) b.notes;
          noted = ap (λ (y : ThreadNotes). y.waits) b.notes;
        }

-- ---- of each run

module _ (laws : Laws) (s new : Shared) (t : ℕ) (store : Store) (object : Ref)
    (apart : IsApart s.machine.spaces s.machine.logs t (place_of store.target))
    (room : length s.history.acts < s.history.limit) (converting : doing_of s.machine t ≡ Converting)
    (idle : HasBegun (scene_of s.machine) t → ⊥)
    (convert : (es : List Entry) → Stands s.machine.spaces es → ConvertsFirst s.machine.spaces es store
    object)
  where
    abbrev Begins : Begun → Type 0
    Begins answer = (es : List Entry) (n : ℕ) → Converts s es → IsAsked es (reference_word object) n
        → BeginsOnce t n answer s new es

    module _ (o : Opening) (first : ℕ) (set : SetFacts) (es : List Entry) (threads : List ThreadFrames)
        (fs : ThreadFrames) (request : Request Ref Item)
        (h : HasPlanned o first set s es threads t fs request store) where
      its : ConvertsFirst s.machine.spaces es store object
      its = convert es h.due.running.keeps.heap.whole

      free : StoresFreely o s.machine t (place_of store.target) (value_in s.machine store.kept)
      free = freely-volatile laws o first set s es threads t fs request store h apart object its

      once : (answer : Begun) → Begins answer → BeginsOnce t its.item.number answer s new es
      once answer begins = begins es its.item.number (converts-now laws o first set s es threads t fs request h.due)
          its.item.asked

      claimed : Begins begun_as.Claimed → Comes o first es threads t fs request Micro s new
      claimed begins = claimed-comes laws o first set s es threads t fs request store h free room object converting
          its idle new (once begun_as.Claimed begins)

      refused : (need left : ℕ) → Begins (begun_as.Full need left)
          → Comes o first es threads t fs request (Over (Met (lacks which.ImageLines need left))) s new
      refused need left begins = refused-comes laws o first set s es threads t fs request store h free room object
          converting its idle new need left (once (begun_as.Full need left) begins)

      same-history : (answer : Begun) → Begins answer → new.history ≡ s.history
      same-history answer begins = (once answer begins).history

      -- with a need the store is planned still
      needing : (u : ℕ) → Begins (begun_as.Needs u)
          → NeedsFirst o first set s new es threads t fs request store
      needing u begins = needs-first laws o first set s es threads t fs request store h free room object converting
          its idle new u (once (begun_as.Needs u) begins) (λ table. begins table its.item.number)

    pub claimed-comes-to : Begins begun_as.Claimed → HasSomePlanned s t store → StoreComesTo t store Micro s new
    claimed-comes-to begins (o, first, set, es, threads, fs, request, h) = record {
      comes = λ o2 first2 set2 es2 threads2 fs2 request2 h2.
          claimed o2 first2 set2 es2 threads2 fs2 request2 h2 begins;
      sink = record {
        acts = inl (ap (λ (y : History). y.acts)
            (same-history o first set es threads fs request h begun_as.Claimed begins));
        fault = tt;
      };
    }

    pub refused-comes-to : (need left : ℕ) → Begins (begun_as.Full need left) → HasSomePlanned s t store
        → StoreComesTo t store (Over (Met (lacks which.ImageLines need left))) s new
    refused-comes-to need left begins (o, first, set, es, threads, fs, request, h) = record {
      comes = λ o2 first2 set2 es2 threads2 fs2 request2 h2.
          refused o2 first2 set2 es2 threads2 fs2 request2 h2 need left begins;
      sink = record {
        acts = inl (ap (λ (y : History). y.acts)
            (same-history o first set es threads fs request h (begun_as.Full need left) begins));
        fault = tt;
      };
    }

    -- with a need nothing else was done, and the store is planned still
    pub needs-of : (u : ℕ) → Begins (begun_as.Needs u) → (o : Opening) (first : ℕ) (set : SetFacts)
        (es : List Entry) (threads : List ThreadFrames) (fs : ThreadFrames) (request : Request Ref Item)
        → HasPlanned o first set s es threads t fs request store
        → NeedsFirst o first set s new es threads t fs request store
    needs-of u begins o first set es threads fs request h = needing o first set es threads fs request h u begins

    pub history-of : (answer : Begun) → Begins answer → HasSomePlanned s t store → new.history ≡ s.history
    history-of answer begins (o, first, set, es, threads, fs, request, h) =
        same-history o first set es threads fs request h answer begins
