-- What the calls of a shared heap are given, where an event is due.
use Rattle.std.proofs.Common.{◌≡◌, inl, inr, ℕ, ◌-◌, ◌<◌, ◌≤◌, ◌^◌, true, Some, None, List, length, refl, sym, ◌∙◌, ap, subst}
use Rattle.std.proofs.Common.{arith}
use Rattle.std.specs.Prelude.{IsSome}
use Rattle.std.proofs.lemmas.List.Elements.{All-weaker}
use Rattle.ap_base.specs.declared.reference.Ref.{Ref}
use Rattle.ap_base.specs.declared.reference.Item.{Item}
use Rattle.run_types.specs.declared.resolved.At.{At}
use Rattle.natives.specs.declared.requests.Request.{Request}
use Rattle.natives.specs.declared.requests.Request.TheVariants as ask
use Rattle.monitors.specs.declared.monitor.Monitor.{Monitor}
use Rattle.plain_model.specs.Facts.{SetFacts, classes_of}
use Rattle.shared_objects.specs.declared.threads.ThreadState.{ThreadState}
use Rattle.shared_objects.specs.Worlds.{HasCounts}
use Rattle.step_forms.specs.Becomes.{given}
use Rattle.step_forms.specs.Follows.{Agrees, IsHeapOf}
use Rattle.frames.specs.Turns.{turn}
use Rattle.run_forms.specs.Views.{ThreadFrames}
use Rattle.run_forms.specs.Standing.{Launch, setting_of}
use Rattle.region_log.specs.Readers.{is_ending}
use Rattle.region_log.specs.declared.entry.Underway.{Underway}
use Rattle.region_log.specs.declared.entry.Underway.TheVariants.{Nothing as Idle, Adding, Ending}
use Rattle.twin_forms.specs.Table.{Entry}
use Rattle.two_spaces.specs.Whole.{IsWhole}
use Rattle.machine_threads.specs.Passed.{Doing}
use Rattle.machine_threads.specs.Passed.{Nothing, Converting, Writing, Fencing}
use Rattle.machine_threads.specs.Passed.{Opening, doing_of, known_in, layout_in, log_of, memory_of, shown_in}
use Rattle.machine_threads.specs.Passed.{IsDoing, KeepsRun}
use Rattle.machine_threads.specs.Passed.{Asks, IsReady}
use Rattle.shared_heap.specs.Passed.{AgreesWith}
use Rattle.converter.specs.Stepping.{keys_of}
use Rattle.shared_heap.specs.Shared.{Shared}
use Rattle.shared_heap.specs.Requests.{MayRequest}
use Rattle.machine_threads.specs.Keeping.{AsksSomeStore, LagsByItsLog, LagsByItsStore}
use Rattle.machine.specs.Ended.{EndsNone, OnlyStoresAndEndsAreUnderWay}
use Rattle.machine.specs.Laws.{Laws}
use Rattle.machine.specs.Running.{IsDue, Runs}
use Rattle.machine.proofs.Basics.{some-same}

module _ (o : Opening) (s : Shared) (es : List Entry) (t : ℕ) (k : KeepsRun o s.machine es) where
  pub is-long : 33 ≤ (memory_of s.machine).size
  is-long = let size = k.heap.size in let long = k.heap.long in omega (arith, size, long)

  pub is-whole : IsWhole s.machine.spaces
  is-whole = (es, k.heap.whole)

  pub line-inside : (line : ℕ) → doing_of s.machine t ≡ Writing line → line < (memory_of s.machine).size
  line-inside line is =
      let doing = subst (IsDoing (known_in o s.machine) (layout_in o es) t) is (k.asked.doing t) in
      subst (λ n. line < n) (sym k.heap.size) doing.2

  pub agrees-queue : AgreesWith s.machine.spaces s.machine.queue
  agrees-queue = record {
    es = es;
    stands = k.heap.whole;
    free = s.machine.free;
    keys = keys_of s.machine.rest.monitors;
    agrees = k.heap.agrees;
  }

  -- fewer acts than a count may reach
  pub counts : length s.machine.acts < 2 ^ 64 - 1 → HasCounts s.machine.rest
  counts few = record {
    monitors = All-weaker (λ (m : Monitor). m.count ≤ length s.machine.acts) (λ (m : Monitor). m.count < 2
        ^ 64 - 1)
        (λ (m : Monitor) most. omega (arith, few, most)) s.machine.rest.monitors k.world.counts.monitors;
    threads = All-weaker (λ (t : ThreadState). t.depth ≤ length s.machine.acts)
        (λ (t : ThreadState). t.depth < 2 ^ 64 - 1) (λ (t : ThreadState) most. omega (arith, few, most))
        s.machine.rest.threads k.world.counts.threads;
  }

-- ---- a run

module _ (o : Opening) (first : ℕ) (set : SetFacts) (s : Shared) (es : List Entry) (threads : List ThreadFrames)
    (running : Runs o first s es threads) (facts : set ≡ o.launch.set) where
  pub agrees-then : length s.history.acts < 2 ^ 32 → Agrees set (shown_in s.machine) s.machine.rest
  agrees-then few = record {
    heap = subst (λ (x : SetFacts). IsHeapOf x (shown_in s.machine)) (sym facts) running.keeps.world.heap;
    classes = running.keeps.world.classes ∙ ap (λ (x : SetFacts). length (classes_of x)) (sym facts);
    monitors = running.keeps.world.monitors;
    counts = counts o s es 0 running.keeps (let same = ap length running.acts in omega (arith, few, same));
  }

  pub may-then : Laws → (t : ℕ) (fs : ThreadFrames) (request : Request Ref Item) → IsReady (doing_of s.machine t)
      → Asks o s.machine threads t fs request → MayRequest set s.machine t request
  may-then laws t fs request ready asks =
      let q = laws.alike o s.machine es threads running.keeps running.plain t fs request ready asks in
      subst (λ (x : SetFacts). MayRequest x s.machine t request) (sym facts)
      (record { thread = q.thread; fit = q.fit; known = q.known })

module _ (laws : Laws) (o : Opening) (first : ℕ) (set : SetFacts) (s : Shared) (es : List Entry)
    (threads : List ThreadFrames) (t : ℕ) (fs : ThreadFrames) (request : Request Ref Item)
    (due : IsDue o first set s es threads t fs request) where
  pub agrees-now : length s.history.acts < 2 ^ 32 → Agrees set (shown_in s.machine) s.machine.rest
  agrees-now = agrees-then o first set s es threads due.running due.facts

  pub may-ask : IsReady (doing_of s.machine t) → MayRequest set s.machine t request
  may-ask ready = may-then o first set s es threads due.running due.facts laws t fs request ready due.asks

-- ---- the end of a region

ends-by : (launch : Launch) (u : Underway) (fs : ThreadFrames) (request : Request Ref Item) → is_ending u ≡ true
    → LagsByItsLog launch u fs → (turn (setting_of launch) fs).asks ≡ Some request → (from : At) × (request ≡ ask.End from)
ends-by launch Idle fs request is asks now = absurd (let no = is in cc)
ends-by launch (Adding e stage) fs request is asks now = absurd (let no = is in cc)
ends-by launch (Ending stage) fs request is (from, asks) now = (from, some-same request (ask.End from) (sym now ∙ asks))

-- while a region is being ended, its thread asks that
pub end-asked : (o : Opening) (first : ℕ) (set : SetFacts) (s : Shared) (es : List Entry) (threads : List ThreadFrames)
    (t : ℕ) (fs : ThreadFrames) (request : Request Ref Item) → IsDue o first set s es threads t fs request
    → is_ending (log_of s.machine t).underway ≡ true → (from : At) × (request ≡ ask.End from)
end-asked o first set s es threads t fs request due is = ends-by o.launch (log_of s.machine t).underway fs request is
    (due.running.all.each t fs due.asks.frames).logs due.asks.asks

-- ---- what is under way

module _ (launch : Launch) (fs : ThreadFrames) (request : Request Ref Item)
    (now : (turn (setting_of launch) fs).asks ≡ Some request) (none : given request ≡ None) where
  no-store : AsksSomeStore launch fs → ⊥
  no-store store =
      let gives = subst (λ (q : Request Ref Item). IsSome (given q)) (some-same store.0 request (sym store.1 ∙ now)) store.2 in
      let no : IsSome {T = Item} None = subst IsSome none gives in cc

  ready-by : (d : Doing) → LagsByItsStore launch d fs → IsReady d
  ready-by Nothing lags = inl refl
  ready-by Converting lags = inr refl
  ready-by (Writing line) lags = absurd (no-store lags)
  ready-by Fencing lags = absurd (no-store lags)

  idle-by : EndsNone request → (u : Underway) → LagsByItsLog launch u fs → u ≡ Idle
  idle-by ends_none Idle lags = refl
  idle-by ends_none (Adding e stage) lags = absurd (no-store lags)
  idle-by ends_none (Ending stage) lags =
      absurd (subst EndsNone (some-same request (ask.End lags.0) (sym now ∙ lags.1)) ends_none)

-- of a thread that asks neither a store nor the end of a region nothing is
pub only_stores_and_ends_are_under_way : OnlyStoresAndEndsAreUnderWay
only_stores_and_ends_are_under_way o first set s es threads t fs request due none ends_none =
    let own = due.running.all.each t fs due.asks.frames in (
      ready-by o.launch fs request due.asks.asks none (doing_of s.machine t) own.lags,
      idle-by o.launch fs request due.asks.asks none ends_none (log_of s.machine t).underway own.logs,
    )
