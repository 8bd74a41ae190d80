-- What a step of a conversion keeps of the threads' logs: it stores to lines of objects that aren't durable.
use Rattle.std.proofs.Common.{◌≡◌, ℕ, ◌+◌, ◌<◌, List, ◌∙◌, ap, subst, arith}
use Rattle.line_memory.specs.Memory.{Memory}
use Rattle.line_memory.specs.Moments.{KeepsShown}
use Rattle.twin_forms.specs.Table.{Entry, entry, lines_of}
use Rattle.twin_forms.specs.Sights.{Twin}
use Rattle.twin_forms.specs.Moves.{ChangesLine}
use Rattle.convert_queue.specs.Queues.{place_of}
use Rattle.convert_words.specs.declared.step.ConvertStep.{ConvertStep}
use Rattle.convert_words.specs.declared.step.ConvertStep.TheVariants as step
use Rattle.convert_words.specs.Agreeing.{Is}
use Rattle.convert_words.specs.Scenes.{Scene}
use Rattle.convert_words.specs.Converting.{Says, CopiesLine, RepairsLine}
use Rattle.machine_forms.specs.Machines.{Opening, Machine, memory_of, scene_of, log_of}
use Rattle.machine_forms.specs.Keeping.{KeepsRun}
use Rattle.machine_forms.specs.Events.{ConvertsOn}
use Rattle.machine_laws.proofs.Changes.{whole-same, whole-call, whole-line}
use Rattle.machine_laws.proofs.AskKeeping.{claimed-outside}
use Rattle.machine_laws.proofs.Memories.{KeepsWhole}

module _ (o : Opening) (m : Machine) (es : List Entry) (k : KeepsRun o m es) (m' : Machine) (t : ℕ)
    (answer : ConvertStep) (c : ConvertsOn t answer m m' es) (u : ℕ) (lt : u < 64) where
  abbrev before : Memory
  before = c.event.at.heap.memory

  was : before ≡ memory_of m
  was = ap (λ (x : Twin). x.memory) c.event.goes_on.heap

  stays : memory_of m' ≡ before → KeepsWhole (log_of m u) (memory_of m')
  stays same = whole-same o m es k (memory_of m') u lt (same ∙ was)

  calls : KeepsShown before (memory_of m') → KeepsWhole (log_of m u) (memory_of m')
  calls keeps = whole-call o m es k (memory_of m') u lt
      (subst (λ (x : Memory). KeepsShown x (memory_of m')) was keeps) c.sound.known

  stores : (n i line : ℕ) → Is c.event.at.queue es t i n → line < lines_of (entry es n)
      → ChangesLine ((entry es n).line + line) before (memory_of m')
      → KeepsWhole (log_of m u) (memory_of m')
  stores n i line is inside changes =
      whole-line o m es k (memory_of m') u lt n line is.claimed.0 is.placed
      (claimed-outside o m es k t n is.claimed) inside
      (subst (λ (x : Memory). ChangesLine ((entry es n).line + line) x (memory_of m')) was changes)

  by-says : (a : ConvertStep) → Says a t c.event.at (scene_of m') es c.event.after
      → KeepsWhole (log_of m u) (memory_of m')
  by-says (step.Sealed set) says = stays says.memory
  by-says (step.Wait v) says = stays (ap (λ (z : Scene). z.heap.memory) says.1)
  by-says (step.Full need left) says = stays (ap (λ (z : Scene). z.heap.memory) says.1)
  by-says step.Claimed says = stays says.0.memory
  by-says step.Forwarded says = stays says.0.memory
  by-says step.Touched says = calls says.0.keeps
  by-says step.WroteBack says = calls says.0.keeps
  by-says step.Fenced says = calls says.0.keeps
  by-says step.CopiedLine says =
      let copies : CopiesLine c.event.at (scene_of m') es c.event.after t = says.0 in
      let left = copies.left in
      stores copies.n (place_of c.event.at.queue t).0 (entry es copies.n).copied copies.is
      (omega (arith, left)) copies.changes
  by-says step.Repaired says =
      let repairs : RepairsLine c.event.at (scene_of m') es c.event.after t = says.0 in
      stores repairs.n (place_of c.event.at.queue t).0 (place_of c.event.at.queue t).1 repairs.is
      repairs.within repairs.changes

  pub step-whole : KeepsWhole (log_of m u) (memory_of m')
  step-whole = by-says answer c.event.converts.says
