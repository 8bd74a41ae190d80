-- A conversion that begins by a need goes on in the same event: what comes of the heap then comes of the whole event.
use Rattle.std.proofs.Common.{◌≡◌, ◌⊎◌, ℕ, ◌-◌, ◌≤◌, List, [], ◌∷◌, ◌++◌, length, sym, ◌∙◌, ap, subst, arith}
use Rattle.ap_base.specs.declared.reference.Ref.{Ref}
use Rattle.ap_base.specs.declared.reference.Item.{Item}
use Rattle.run_types.specs.declared.wait.On.{On}
use Rattle.run_types.specs.declared.wait.On.TheVariants as on
use Rattle.region_log.specs.Guarding.{is_adding}
use Rattle.natives.specs.declared.requests.Request.{Request}
use Rattle.run_history.specs.Recorded.{History, Recorded}
use Rattle.plain_model.specs.Facts.{SetFacts}
use Rattle.run_forms.specs.Views.{ThreadFrames}
use Rattle.line_memory.specs.Memory.{Memory, OneCall, SameImage}
use Rattle.twin_forms.specs.Table.{Entry}
use Rattle.object_steps.specs.declared.storing.Store.{Store}
use Rattle.machine_threads.specs.Passed.{Opening, Machine, doing_of, memory_of, scene_of}
use Rattle.machine_threads.specs.Passed.{measure, work_left}
use Rattle.convert_waits.specs.Rows.{BeginsToNeed, InRow}
use Rattle.convert_words.specs.Scenes.{AgreesAt}
use Rattle.converter.specs.Laws.{AreUnwritten}
use Rattle.machine_threads.specs.Stuck.{plain_waits}
use Rattle.machine_threads.specs.Passed.{Converting}
use Rattle.shared_heap.specs.Conversions.{HasBegun}
use Rattle.shared_heap.specs.Notes.{ThreadNotes}
use Rattle.shared_heap.specs.Shared.{Shared}
use Rattle.machine.specs.declared.events.Event.{Event}
use Rattle.machine.specs.declared.events.Event.TheVariants.{Did, Micro, WouldWait, Over}
use Rattle.machine.specs.declared.events.Halt.TheVariants.{Met, Stuck}
use Rattle.machine.specs.Ended.{HasPlanned, StoreComesTo}
use Rattle.machine.specs.Events.{AddsActs, AsksOn, Comes, GoesTo, HasImageCause, SparesOthers, SparesSink, KeepsRows, KeepsRowsByNeed, FindsWait, logs_word}
use Rattle.machine.proofs.Awaiting.{awaits-idle}
use Rattle.machine.proofs.Bound.{bound-alike}

-- ---- one after another

spares-then : (o : Opening) (t : ℕ) (a b c : Machine) (es at after : List Entry) (threads threads' : List ThreadFrames)
    → SparesOthers o t a b es at threads threads → SparesOthers o t b c at after threads threads'
    → SparesOthers o t a c es after threads threads'
spares-then o t a b c es at after threads threads' first then = record {
  ask = λ u gs request other asks. then.ask u gs request other (first.ask u gs request other asks);
  doing = λ u other. then.doing u other ∙ first.doing u other;
  forwarded = λ u other old. then.forwarded u other (first.forwarded u other old);
}

-- By each table of the heap's objects the thread needs another, and has nothing to convert itself.
pub record NeedsBy (t : ℕ) (m m' : Machine) (table : List Entry) : Type 0 where
  pub begins : BeginsToNeed t (scene_of m) (scene_of m') table
  pub agrees : AgreesAt (scene_of m') table
  pub unwritten : AreUnwritten m'.queue table

-- The thread needs another, and nothing else was done.
pub record NeedsFirst (o : Opening) (first : ℕ) (set : SetFacts) (s mid : Shared) (es : List Entry)
    (threads : List ThreadFrames) (t : ℕ) (fs : ThreadFrames) (request : Request Ref Item) (store : Store) : Type 0
  where
    pub asks : AsksOn o first s mid es threads t
    pub planned : HasPlanned o first set mid asks.after threads t fs request store
    pub history : mid.history ≡ s.history
    pub notes : mid.notes ≡ s.notes
    pub acts : mid.machine.acts ≡ s.machine.acts
    pub idle : HasBegun (scene_of s.machine) t → ⊥
    pub converting : doing_of mid.machine t ≡ Converting
    pub begun : HasBegun (scene_of mid.machine) t
    pub needs : (table : List Entry) → AgreesAt (scene_of s.machine) table → AreUnwritten s.machine.queue table
        → NeedsBy t s.machine mid.machine table
    pub states : mid.machine.rest.threads ≡ s.machine.rest.threads
    pub memory : memory_of mid.machine ≡ memory_of s.machine
    pub numbers : mid.machine.spaces.numbers ≡ s.machine.spaces.numbers
    pub free : mid.machine.free ≡ s.machine.free
    pub work : work_left mid.machine ≤ work_left s.machine

module _ (o : Opening) (first : ℕ) (set : SetFacts) (s mid new : Shared) (es : List Entry)
    (threads : List ThreadFrames) (t : ℕ) (fs : ThreadFrames) (request : Request Ref Item) (store : Store)
    (n : NeedsFirst o first set s mid es threads t fs request store) where
  asks-then : AsksOn o first mid new n.asks.after threads t → AsksOn o first s new es threads t
  asks-then then = record {
    after = then.after;
    runs = then.runs;
    others = spares-then o t s.machine mid.machine new.machine es n.asks.after then.after threads threads n.asks.others
        then.others;
    own = λ gs q asks. then.own gs q (n.asks.own gs q asks);
  }

  wait-then : (on : On) → KeepsRowsByNeed o t on mid.machine new.machine → KeepsRows o t on s.machine new.machine
  wait-then on needing table waited row =
      let by = n.needs table row.agrees row.unwritten in
      needing n.converting n.begun (scene_of s.machine) table waited
      (subst (λ (acts : List Recorded). InRow (plain_waits o (record mid.machine { acts = acts })) (scene_of s.machine)
      table waited) (sym n.acts) row) by.begins by.agrees by.unwritten

  goes-then : (result : Event) → GoesTo o first result mid new n.asks.after threads t fs request
      → GoesTo o first result s new es threads t fs request
  unfolding asks-then
  goes-then (Did r) then = record {
    after = then.after;
    act = then.act;
    acts = then.acts ∙ ap (λ (xs : List Recorded). xs ++ then.act ∷ []) n.acts;
    runs = then.runs;
    others = λ begun begins. spares-then o t s.machine mid.machine new.machine es n.asks.after then.after threads _
        n.asks.others (then.others begun begins);
    starts = then.starts;
    started = λ k child is. (let began = then.started k child is in record {
      next = began.next ∙ ap length n.states;
      thread = began.thread;
      noted = began.noted;
      begins = began.begins;
    });
    idle = then.idle;
  }
  goes-then Micro then = asks-then then
  goes-then (WouldWait on) then = record {
    asks = asks-then then.asks;
    table = then.table;
    agrees = then.agrees;
    holds = then.holds;
    forwarded = then.forwarded;
    ready = then.ready;
    below = then.below;
    rows = wait-then on then.needing;
    needing = λ converts begun. absurd (n.idle begun);
    history = λ plain. then.history plain ∙ n.history;
  }
  goes-then (Over (Met f)) then = record {
    after = then.after;
    keeps = then.keeps;
    plain = then.plain;
    history = then.history ∙ n.history;
    acts = then.acts ∙ n.acts;
    ends = then.ends;
  }
  goes-then (Over Stuck) then = absurd then

  acts-then : (result : Event) → AddsActs result t mid.history.acts new.history.acts
      → AddsActs result t s.history.acts new.history.acts
  acts-then result = subst (λ (h : History). AddsActs result t h.acts new.history.acts) n.history

  same-waits : plain_waits o mid.machine t ≡ plain_waits o s.machine t
  same-waits = ap (λ (acts : List Recorded). plain_waits o (record mid.machine { acts = acts }) t) n.acts

  -- nothing is under way in the thread's log
  finds-then : (result : Event) → FindsWait (logs_word mid.machine t) result (plain_waits o mid.machine t)
      → FindsWait (logs_word s.machine t) result (plain_waits o s.machine t)
  finds-then (Did r) found = sym same-waits ∙ found
  finds-then Micro found = λ logs. sym same-waits ∙ found (ap is_adding n.planned.idle)
  finds-then (WouldWait (on.Conversion u)) found = sym same-waits ∙ found
  finds-then (WouldWait (on.Monitor u)) found = sym same-waits ∙ found
  finds-then (WouldWait (on.Join u)) found = sym same-waits ∙ found
  finds-then (WouldWait (on.Init u)) found = sym same-waits ∙ found
  finds-then (Over halt) found = tt

  first-less : measure mid.machine ≤ measure s.machine
  first-less =
      let work = n.work in
      let free = n.free in
      let size = ap (λ (m : Memory). m.size) n.memory in
      omega (arith, work, free, size)

  comes-then : (result : Event) → Comes o first n.asks.after threads t fs request result mid new
      → Comes o first es threads t fs request result s new
  comes-then result c = record {
    goes = goes-then result c.goes;
    acts = acts-then result c.acts;
    calls = subst (λ (m : Memory). SameImage m (memory_of new.machine) ⊎ OneCall m (memory_of new.machine)) n.memory
        c.calls;
    cause = subst (λ (m : Memory). HasImageCause result m.faults (memory_of new.machine).faults) n.memory c.cause;
    answers = c.answers;
    finds = finds-then result c.finds;
    awaits = awaits-idle o s.machine t n.idle result;
    numbers = c.numbers ∙ n.numbers;
    quiet = λ micro same. (let less = c.quiet micro (same ∙ sym (ap (λ (h : History). h.acts) n.history)) in
        let first = first-less in omega (arith, less, first));
    waits = λ on is. (let less = c.waits on is in let first = first-less in omega (arith, less, first));
    work = bound-alike result mid new s new
        (sym (ap (λ (h : History). length new.history.acts - length h.acts) n.history))
        (sym (ap (λ free. new.machine.free - free) n.free)) n.work (omega arith) c.work;
    asks = c.asks ∙ ap (λ (x : ThreadNotes). x.asks) n.notes;
    noted = c.noted ∙ ap (λ (x : ThreadNotes). x.waits) n.notes;
  }

-- ---- of each run

pub after-need : (s mid new : Shared) (t : ℕ) (store : Store) (result : Event)
    → ((o : Opening) (first : ℕ) (set : SetFacts) (es : List Entry) (threads : List ThreadFrames) (fs : ThreadFrames)
    (request : Request Ref Item) → HasPlanned o first set s es threads t fs request store
    → NeedsFirst o first set s mid es threads t fs request store)
    → mid.history ≡ s.history → StoreComesTo t store result mid new → StoreComesTo t store result s new
after-need s mid new t store result needs history then = record {
  comes = λ o first set es threads fs request h.
      (let n = needs o first set es threads fs request h in
      comes-then o first set s mid new es threads t fs request store n result
      (then.comes o first set n.asks.after threads fs request n.planned));
  sink = subst (λ (h : History). SparesSink result h.acts new.history.acts) history then.sink;
}
