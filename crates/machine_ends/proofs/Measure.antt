-- Quiet events lower the measure, and acts add two at most.
use Rattle.std.proofs.Common.{◌≡◌, ℕ, ◌+◌, ◌-◌, ◌*◌, ◌≤◌, List, sym, ◌∙◌, ap, subst, arith}
use Rattle.line_memory.specs.Memory.{Memory}
use Rattle.twin_forms.specs.Table.{Entry}
use Rattle.twin_forms.specs.Sights.{Twin}
use Rattle.convert_words.specs.declared.step.ConvertStep.{ConvertStep}
use Rattle.convert_words.specs.declared.step.ConvertStep.TheVariants as step
use Rattle.convert_words.specs.Scenes.{Scene}
use Rattle.convert_words.specs.Converting.{Says}
use Rattle.converter.specs.declared.begin.Begun.{Begun}
use Rattle.converter.specs.declared.begin.Begun.TheVariants as begun
use Rattle.converter.specs.Beginning.{BeginsAs}
use Rattle.converter.specs.Laws.{quiet, quiet_begun}
use Rattle.machine_laws.specs.Passed.{Opening, Machine, memory_of, scene_of}
use Rattle.machine_laws.specs.Passed.{KeepsRun}
use Rattle.machine_ends.specs.Work.{QuietEventsLowerTheMeasure, ActsAddTwoToTheMeasure}
use Rattle.machine_ends.proofs.Working.{calls-leave, writes-take, fences-take, conversions-take, beginnings-add, seals-add}
use Rattle.machine_ends.proofs.Working.{asked-adds, acts-add, stores-add}

-- ---- work and lines

-- A step that takes work, but for 16 for each line that it takes, lowers the measure by as much.
lower : (work work' size size' free free' low : ℕ) → size' ≡ size → free ≤ free' → free' ≤ size'
    → work' + low ≤ work + 16 * (free' - free)
    → work' + 16 * (size' - free') + low ≤ work + 16 * (size - free)
lower work work' size size' free free' low long more within less = omega (arith, long, more, within, less)

-- ---- steps

-- no step gives lines back
module _ (t : ℕ) (s s' : Scene) (es es' : List Entry) where
  step-takes : (answer : ConvertStep) → Says answer t s s' es es' → s.free ≤ s'.free
  step-takes (step.Sealed set) says = let same = says.free in omega (arith, same)
  step-takes (step.Wait u) says = let same = ap (λ (x : Scene). x.free) says.1 in omega (arith, same)
  step-takes (step.Full need left) says = let same = ap (λ (x : Scene). x.free) says.1 in omega (arith, same)
  step-takes step.Claimed says = let more = says.0.free in omega (arith, more)
  step-takes step.Touched says = let same = says.1.1 in omega (arith, same)
  step-takes step.WroteBack says = let same = says.1.1 in omega (arith, same)
  step-takes step.Fenced says = let same = says.1.1 in omega (arith, same)
  step-takes step.CopiedLine says = let same = says.1.1 in omega (arith, same)
  step-takes step.Forwarded says = let same = says.1.1 in omega (arith, same)
  step-takes step.Repaired says = let same = says.1.1 in omega (arith, same)

  begun-takes : (n : ℕ) (answer : Begun) → BeginsAs answer s s' es es' t n → s.free ≤ s'.free
  begun-takes n begun.Claimed says = let more = says.free in omega (arith, more)
  begun-takes n (begun.Needs u) says = let same = says.free in omega (arith, same)
  begun-takes n (begun.Full need left) says = let same = ap (λ (x : Scene). x.free) says.same in omega (arith, same)

-- the image has as many lines as at the start
same-size : (o : Opening) (m m' : Machine) (es es' : List Entry) → KeepsRun o m es → KeepsRun o m' es'
    → (memory_of m').size ≡ (memory_of m).size
same-size o m m' es es' k k' = k'.heap.size ∙ sym k.heap.size

pub quiet-lowers : QuietEventsLowerTheMeasure
quiet-lowers = record {
  steps = λ o m es k old m' t answer c.
      (let e = c.event in
      let more = step-takes t e.at (scene_of m') es e.after answer e.converts.says in
      lower _ _ (memory_of m).size (memory_of m').size m.free m'.free (quiet answer)
      (e.converts.size ∙ ap (λ (x : Twin). x.memory.size) e.goes_on.heap)
      (subst (λ free. free ≤ m'.free) e.goes_on.free more) c.sound.within
      (conversions-take o m es k old m' t answer c));
  begins = λ o m es k old m' es' t n word answer b.
      lower _ _ (memory_of m).size (memory_of m').size m.free m'.free (quiet_begun answer)
      (ap (λ (x : Memory). x.size) b.begins.memory)
      (begun-takes t (scene_of m) (scene_of m') es es' n answer b.begins.says) b.sound.within
      (beginnings-add o m es k old m' es' t n word answer b);
  calls = λ o m es k old twin e.
      (let work = calls-leave o m es k old twin e in
      let size = e.call.keeps.size in
      let lines = ap (λ x. 16 * (x - m.free)) size in
      omega (arith, work, lines));
  writes = λ o m es k old twin t e.
      (let work = writes-take o m es k old twin t e in
      let size = e.calls.call.keeps.size in
      let lines = ap (λ x. 16 * (x - m.free)) size in
      omega (arith, work, lines));
  fences = λ o m es k old twin t e.
      (let work = fences-take o m es k old twin t e in
      let size = e.calls.call.keeps.size in
      let lines = ap (λ x. 16 * (x - m.free)) size in
      omega (arith, work, lines));
}

pub acts-add-two : ActsAddTwoToTheMeasure
acts-add-two = record {
  seals = λ o m es k old m' t set named s.
      (let work = seals-add o m es k old m' t set named s in
      let e = s.converts.event in
      let size = e.converts.size ∙ ap (λ (x : Twin). x.memory.size) e.goes_on.heap in
      let free : m'.free ≡ m.free = e.converts.says.free ∙ e.goes_on.free in
      omega (arith, work, size, free));
  asked = λ o m es k old t request place item e.
      (let work = asked-adds o m es k old t request place item e in omega (arith, work));
  beside = λ o m es k old m' es' t request operation r acts after k'.
      (let work = acts-add o m es k old m' es' t request operation r acts after k' in
      let size = same-size o m m' es es' k k' in
      let free = acts.does.free in
      omega (arith, work, size, free));
  durable = λ o m es k old m' t request place item e k'.
      (let work = stores-add o m es k old m' t request place item e k' in
      let size = same-size o m m' es es k k' in
      let free = e.does.free in
      omega (arith, work, size, free));
}
