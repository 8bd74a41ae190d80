-- The steps of conversions, their failures and their beginnings.
use Rattle.std.proofs.Common.{◌≡◌, inr, ◌↔◌, ℕ, ◌+◌, ◌^◌, ◌<◌, List, refl, sym, ap, subst, arith}
use Rattle.line_memory.specs.Memory.{Memory, OneCall}
use Rattle.line_memory.specs.Moments.{KeepsShown}
use Rattle.twin_forms.specs.Table.{Entry, entry, Lies, InP, lines_of}
use Rattle.twin_forms.specs.Sights.{Twin, view_of}
use Rattle.twin_forms.specs.Moves.{ChangesLine}
use Rattle.convert_queue.specs.Queues.{place_of}
use Rattle.convert_words.specs.declared.step.ConvertStep.{ConvertStep}
use Rattle.convert_words.specs.declared.step.ConvertStep.TheVariants as step
use Rattle.convert_words.specs.Agreeing.{Is}
use Rattle.convert_words.specs.Scenes.{Scene}
use Rattle.convert_words.specs.Converting.{Says, Calls, CopiesLine, RepairsLine}
use Rattle.machine_forms.specs.Machines.{Opening, Machine, memory_of, scene_of, layout_in, waits_in, state_in}
use Rattle.machine_forms.specs.Keeping.{KeepsRun, KeepsStops}
use Rattle.machine_forms.specs.Events.{Converted, IsNoSeal, ConvertsOn, FailsOn, BeginsOn}
use Rattle.machine_laws.proofs.StopMoving.{state_with, RunsAt, moved, called, later_call}
use Rattle.machine_laws.proofs.Free.{line_changed}
use Rattle.machine_laws.proofs.StopTables.{moved_durable, same_layout, told_durable, free_line, claimed_out}
use Rattle.converter.specs.declared.begin.Begun.{Begun}

-- ---- which objects are durable

unchanged : (s s' : Scene) (es es' : List Entry) → Lies (view_of s.heap) es → Lies (view_of s'.heap) es'
    → s' ≡ s → (n : ℕ) → InP es' n ↔ InP es n
unchanged s s' es es' h h' same n =
    let here : Lies (view_of s.heap) es' = subst (λ (z : Scene). Lies (view_of z.heap) es') same h' in
    (told_durable (view_of s.heap) es' es here h n, told_durable (view_of s.heap) es es' h here n)

same_durable : (answer : ConvertStep) (t : ℕ) (s s' : Scene) (es es' : List Entry) → IsNoSeal answer
    → Lies (view_of s.heap) es → Lies (view_of s'.heap) es' → Says answer t s s' es es'
    → (n : ℕ) → InP es' n ↔ InP es n
same_durable (step.Sealed set) t s s' es es' none h h' says = absurd none
same_durable (step.Wait u) t s s' es es' none h h' says = unchanged s s' es es' h h' says.1
same_durable (step.Full need left) t s s' es es' none h h' says = unchanged s s' es es' h h' says.1
same_durable step.Claimed t s s' es es' none h h' says = says.1
same_durable step.Touched t s s' es es' none h h' says = says.1.0
same_durable step.WroteBack t s s' es es' none h h' says = says.1.0
same_durable step.Fenced t s s' es es' none h h' says = says.1.0
same_durable step.CopiedLine t s s' es es' none h h' says = says.1.0
same_durable step.Forwarded t s s' es es' none h h' says = says.1.0
same_durable step.Repaired t s s' es es' none h h' says = says.1.0

-- ---- the memory

module _ (o : Opening) (m : Machine) (es : List Entry) (r : KeepsRun o m es) (t : ℕ) (at s' : Scene)
    (es' : List Entry) (heap : at.heap ≡ m.spaces.twin) where
  abbrev before : Memory
  before = at.heap.memory

  abbrev now : Memory
  now = s'.heap.memory

  abbrev Runs_with : Memory → Type 0
  Runs_with memory = RunsAt o (state_with m.acts (layout_in o es) (waits_in m) memory)

  memory_is : before ≡ memory_of m
  memory_is = ap (λ (twin : Twin). twin.memory) heap

  few : before.calls < 2 ^ 64
  few = subst (λ (z : Memory). z.calls < 2 ^ 64) (sym memory_is) r.asked.few

  stays : now ≡ before → Runs_with before → Runs_with now
  stays same runs = moved o m.acts m.acts (layout_in o es) (layout_in o es) (waits_in m) (waits_in m) before
      now refl refl refl same runs

  makes_call : KeepsShown before now → OneCall before now → Runs_with before → Runs_with now
  makes_call kept one runs =
      called o (state_with m.acts (layout_in o es) (waits_in m) before) now r.heap.long kept (inr one)
      (later_call before now few one) runs

  changes_line : (n i c : ℕ) → Is at.queue es t i n → c < lines_of (entry es n)
      → ChangesLine ((entry es n).line + c) before now → Runs_with before → Runs_with now
  changes_line n i c is inside changes runs =
      line_changed o (state_with m.acts (layout_in o es) (waits_in m) before) now ((entry es n).line + c)
      changes (free_line o m es r n c is.placed (claimed_out o m es r t n is.claimed) inside) runs

  goes : (answer : ConvertStep) → IsNoSeal answer → Calls answer before now → Says answer t at s' es es'
      → Runs_with before → Runs_with now
  goes (step.Sealed set) none calls says runs = absurd none
  goes (step.Wait u) none calls says runs = stays (ap (λ (z : Scene). z.heap.memory) says.1) runs
  goes (step.Full need left) none calls says runs = stays (ap (λ (z : Scene). z.heap.memory) says.1) runs
  goes step.Claimed none calls says runs = stays says.0.memory runs
  goes step.Forwarded none calls says runs = stays says.0.memory runs
  goes step.Touched none calls says runs = makes_call says.0.keeps calls runs
  goes step.WroteBack none calls says runs = makes_call says.0.keeps calls runs
  goes step.Fenced none calls says runs = makes_call says.0.keeps calls runs
  goes step.CopiedLine none calls says runs =
      let copies : CopiesLine at s' es es' t = says.0 in
      let n = copies.n in
      let left = copies.left in
      let inside : (entry es n).copied < lines_of (entry es n) = omega (arith, left) in
      changes_line n (place_of at.queue t).0 (entry es n).copied copies.is inside copies.changes runs
  goes step.Repaired none calls says runs =
      let repairs : RepairsLine at s' es es' t = says.0 in
      changes_line repairs.n (place_of at.queue t).0 (place_of at.queue t).1 repairs.is repairs.within
      repairs.changes runs

  from_old : Runs_with (memory_of m) → Runs_with before
  from_old runs = moved o m.acts m.acts (layout_in o es) (layout_in o es) (waits_in m) (waits_in m)
      (memory_of m) before refl refl refl memory_is runs

-- ---- events

-- what a conversion leaves as it was
converted : (o : Opening) (m m' : Machine) (es es' : List Entry) → Converted m m'
    → layout_in o es' ≡ layout_in o es
    → RunsAt o (state_with m.acts (layout_in o es) (waits_in m) (memory_of m')) → RunsAt o (state_in o m' es')
converted o m m' es es' same layout runs =
    moved o m.acts m'.acts (layout_in o es) (layout_in o es') (waits_in m) (waits_in m') (memory_of m')
    (memory_of m') (ap (λ (z : Machine). z.acts) same) layout (ap waits_in same) refl runs

pub conversions_keep : (o : Opening) (m : Machine) (es : List Entry) → KeepsRun o m es
    → (m' : Machine) (t : ℕ) (answer : ConvertStep)
    (c : ConvertsOn t answer m m' es) → IsNoSeal answer → KeepsStops o m' c.event.after
conversions_keep o m es r m' t answer c none told =
    let e = c.event in
    let k = e.converts in
    let at = e.at in
    let s' = scene_of m' in
    let durable = same_durable answer t at s' es e.after none e.goes_on.agrees.lies k.agrees.lies k.says in
    let layout = same_layout o es e.after (moved_durable (view_of at.heap) (view_of s'.heap) es e.after
    e.goes_on.agrees.lies k.shows durable) in
    converted o m m' es e.after c.same layout
    (goes o m es r t at s' e.after e.goes_on.heap answer none k.calls k.says
    (from_old o m es r t at s' e.after e.goes_on.heap (r.stops told)))

pub failures_keep : (o : Opening) (m : Machine) (es : List Entry) → KeepsRun o m es
    → (m' : Machine) (t : ℕ) → FailsOn t m m' es → KeepsStops o m' es
failures_keep o m es r m' t f told =
    let e = f.event in
    let at = e.at in
    let s' = scene_of m' in
    converted o m m' es es f.same refl
    (makes_call o m es r t at s' es e.goes_on.heap e.fails.keeps e.fails.call
    (from_old o m es r t at s' es e.goes_on.heap (r.stops told)))

pub beginnings_keep : (o : Opening) (m : Machine) (es : List Entry) → KeepsRun o m es
    → (m' : Machine) (es' : List Entry) (t n word : ℕ) (answer : Begun)
    → BeginsOn t n word answer o m m' es es' → KeepsStops o m' es'
beginnings_keep o m es r m' es' t n word answer b told =
    let begins = b.begins in
    let s = scene_of m in
    let s' = scene_of m' in
    let layout = same_layout o es es' (moved_durable (view_of s.heap) (view_of s'.heap) es es'
    r.heap.agrees.lies begins.shows begins.durable) in
    converted o m m' es es' b.same layout
    (stays o m es r t s s' es' refl begins.memory (r.stops told))
