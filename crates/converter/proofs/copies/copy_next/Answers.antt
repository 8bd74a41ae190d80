use Rattle.std.proofs.Common.{ℕ, List, sym, subst}
use Rattle.line_memory.specs.Memory.{Memory, IsResident}
use Rattle.twin_forms.specs.Table.{Entry}
use Rattle.convert_words.specs.declared.step.ConvertStep.TheVariants as step
use Rattle.convert_words.specs.Converting.{Converts}
use Rattle.convert_words.specs.Scenes.{Scene, scene, AgreesAt}
use Rattle.convert_words.proofs.StepKinds.{touch_converts, call_fails}
use Rattle.converter.specs.Working.{IsToCopy}
use Rattle.converter.proofs.Events.{on_err}
use Rattle.converter.proofs.Doing.{copied_needs, own_within}
use Rattle.converter.proofs.copies.copy_next.Goals as goal

pub make_ready-requires-clause-within : goal.make_ready-requires-clause-within
make_ready-requires-clause-within g c =
    let h = c.args.heap.now in
    let q = c.requires.agrees in
    let s : Scene = scene h.space h.memory h.marks c.args.queue.now q.0 q.1 in
    own_within s q.2 c.args.t c.args.line q.3 (copied_needs s q.2 c.args.t c.args.object c.args.line q.4).0

pub returns-in_err-make_ready-clause-failed : goal.returns-in_err-make_ready-clause-failed
returns-in_err-make_ready-clause-failed g c = on_err c.from_residual.result _ (λ free keys es a.
    let h = c.args.heap.now in
    call_fails (scene h.space h.memory h.marks c.args.queue.now free keys) c.make_ready.new.memory es c.requires.known
    c.make_ready.ensures.known c.make_ready.ensures.keeps c.in_err-make_ready.ensures.failed a)

pub returns-then-not-branch-clause-converts : goal.returns-then-not-branch-clause-converts
returns-then-not-branch-clause-converts g c = λ free keys es a w.
    let h = c.args.heap.now in
    let s : Scene = scene h.space h.memory h.marks c.args.queue.now free keys in
    let out = c.if-not-branch.true in
    let r = c.in_ok-make_ready.ensures in
    let needs = copied_needs s es c.args.t c.args.object c.args.line w in (
      es,
      touch_converts s c.make_ready.new.memory c.args.line es c.args.t c.requires.known c.make_ready.ensures.known c.make_ready.ensures.keeps (r.call out)
          needs.0 needs.1 (r.missing out) (r.nearer out) (r.not_twice out) a,
    )

pub copy_resident-requires-clause-agrees : goal.copy_resident-requires-clause-agrees
copy_resident-requires-clause-agrees g c =
    let h = c.args.heap.now in
    let q = c.requires.agrees in
    let same = (c.in_ok-make_ready.ensures.ready c.if-not-branch.false).1 in
    subst (λ (m : Memory). (free : ℕ) × (keys : List ℕ) × (es : List Entry) × AgreesAt
    (scene h.space m h.marks c.args.queue.now free keys) es × IsToCopy
    (scene h.space m h.marks c.args.queue.now free keys) es c.args.t c.args.object c.args.line)
    (sym same) q

pub copy_resident-requires-clause-resident : goal.copy_resident-requires-clause-resident
copy_resident-requires-clause-resident g c =
    let r = c.in_ok-make_ready.ensures.ready c.if-not-branch.false in
    subst (λ (m : Memory). IsResident m c.args.line) (sym r.1) r.0

pub returns-clause-converts : goal.returns-clause-converts
returns-clause-converts g c =
    let h = c.args.heap.now in
    let new = c.copy_resident.new in
    let same = (c.in_ok-make_ready.ensures.ready c.if-not-branch.false).1 in
    subst (λ (m : Memory). (free : ℕ) (keys : List ℕ) (es : List Entry) → AgreesAt (scene h.space m h.marks c.args.queue.now free keys) es
    → IsToCopy (scene h.space m h.marks c.args.queue.now free keys) es c.args.t c.args.object c.args.line
    → (es' : List Entry) × Converts c.args.t step.CopiedLine (scene h.space m h.marks c.args.queue.now free keys) (scene new.heap.space new.heap.memory new.heap.marks new.queue free keys) es es')
    same c.copy_resident.ensures.converts
