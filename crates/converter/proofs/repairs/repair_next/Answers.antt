use Rattle.std.proofs.Common.{◌+◌, inr, refl, sym, subst, arith}
use Rattle.line_memory.specs.Memory.{Memory, IsResident}
use Rattle.twin_forms.specs.Table.{entry}
use Rattle.twin_forms.specs.Sights.{view_of, held_of, written_of}
use Rattle.convert_words.specs.declared.step.ConvertStep.TheVariants as step
use Rattle.convert_words.specs.Converting.{Converts}
use Rattle.convert_words.specs.Scenes.{Scene, IsKey, scene, AgreesAt}
use Rattle.convert_words.proofs.StepKinds.{touch_converts, call_fails, wait_converts}
use Rattle.convert_words.proofs.Noting.{own_forwarded}
use Rattle.converter.specs.Working.{IsToRepair}
use Rattle.converter.proofs.Placed.{Holds, holds}
use Rattle.converter.proofs.Events.{on_err}
use Rattle.converter.proofs.Doing.{repaired_needs, own_within, same_object}
use Rattle.converter.proofs.Repaired.{moved_here, lacks_here, lacks_none}
use Rattle.converter.proofs.repairs.repair_next.Goals as goal

pub overflow_add-first : goal.overflow_add-first
overflow_add-first g c =
    let h = c.args.heap.now in
    let q = c.requires.agrees in
    let s : Scene = scene h.space h.memory h.marks c.args.queue.now q.0 q.1 in
    let lt = own_within s q.2 c.args.t (c.args.first + c.args.c) q.3 (repaired_needs s q.2 c.args.t c.args.object c.args.first c.args.c q.4).0 in
    let few = q.3.lies.table.few_lines in
    omega (arith, lt, few)

pub make_ready-requires-clause-within : goal.make_ready-requires-clause-within
make_ready-requires-clause-within g c =
    let h = c.args.heap.now in
    let q = c.requires.agrees in
    let s : Scene = scene h.space h.memory h.marks c.args.queue.now q.0 q.1 in
    own_within s q.2 c.args.t (c.args.first + c.args.c) q.3 (repaired_needs s q.2 c.args.t c.args.object c.args.first c.args.c q.4).0

pub returns-in_err-make_ready-clause-failed : goal.returns-in_err-make_ready-clause-failed
returns-in_err-make_ready-clause-failed g c = on_err c.from_residual.result _ (λ free keys es a.
    let h = c.args.heap.now in
    call_fails (scene h.space h.memory h.marks c.args.queue.now free keys) c.make_ready.new.memory es c.requires.known
    c.make_ready.ensures.known c.make_ready.ensures.keeps c.in_err-make_ready.ensures.failed a)

pub returns-then-not-branch-clause-converts : goal.returns-then-not-branch-clause-converts
returns-then-not-branch-clause-converts g c = λ free keys es a w.
    let h = c.args.heap.now in
    let s : Scene = scene h.space h.memory h.marks c.args.queue.now free keys in
    let out = c.if-not-branch.true in
    let r = c.in_ok-make_ready.ensures in
    let needs = repaired_needs s es c.args.t c.args.object c.args.first c.args.c w in
    touch_converts s c.make_ready.new.memory (c.args.first + c.args.c) es c.args.t c.requires.known c.make_ready.ensures.known c.make_ready.ensures.keeps (r.call out)
    needs.0 needs.1 (r.missing out) (r.nearer out) (r.not_twice out) a

pub slots_at-slots-requires : goal.slots_at-slots-requires
slots_at-slots-requires g c =
    let h = c.args.heap.now in
    let q = c.requires.agrees in let w = q.4 in
    let s : Scene = scene h.space h.memory h.marks c.args.queue.now q.0 q.1 in
    let two = own_forwarded (view_of s.heap) (held_of s.heap.memory) (written_of s.heap.memory) s.queue s.free (IsKey s.keys) q.2 c.args.t w.n q.3 w.phase w.is.claimed in
    let same = (c.in_ok-make_ready.ensures.ready c.if-not-branch.false).1 in
    let moved : AgreesAt (scene h.space c.make_ready.new.memory h.marks c.args.queue.now q.0 q.1) q.2 = subst
    (λ (m : Memory). AgreesAt (scene h.space m h.marks c.args.queue.now q.0 q.1) q.2) (sym same) q.3 in
    record { object = (q.2, w.n, moved.lies, w.is.claimed.0, (omega (arith, two), w.at)) }

pub find_behind-requires-clause-object : goal.find_behind-requires-clause-object
find_behind-requires-clause-object g c =
    let q = c.requires.agrees in
    let h = c.args.heap.now in
    let m = c.make_ready.new.memory in
    let same = (c.in_ok-make_ready.ensures.ready c.if-not-branch.false).1 in
    let s : Scene = scene h.space m h.marks c.args.queue.now q.0 q.1 in
    let a1 : AgreesAt s q.2 = subst (λ (x : Memory). AgreesAt (scene h.space x h.marks c.args.queue.now q.0 q.1) q.2) (sym same) q.3 in
    let w1 : IsToRepair s q.2 c.args.t c.args.object c.args.first c.args.c = subst
    (λ (x : Memory). IsToRepair (scene h.space x h.marks c.args.queue.now q.0 q.1) q.2 c.args.t c.args.object
    c.args.first c.args.c) (sym same) q.4 in
    let two = own_forwarded (view_of s.heap) (held_of s.heap.memory) (written_of s.heap.memory) s.queue s.free (IsKey s.keys) q.2 c.args.t w1.n a1 w1.phase w1.is.claimed in
    let slots = c.slots_at-slots.ensures.slots q.2 w1.n a1.lies w1.is.claimed.0 (omega (arith, two), w1.at) in
    let first = c.first_slot-from.ensures.first in
    let end = c.end_slot-to.ensures.end in
    let holds1 : Holds c.args.c (entry q.2 w1.n).slots c.first_slot-from.result c.end_slot-to.result = holds c.args.c
    (entry q.2 w1.n).slots c.first_slot-from.result c.end_slot-to.result (omega (arith, first, slots))
    (omega (arith, end, slots)) in
    (q.2, w1.n, λ k lo hi. moved_here s q.2 c.args.t c.args.object c.args.first c.args.c c.first_slot-from.result c.end_slot-to.result a1 w1 holds1 k lo hi)

pub find_behind-requires-clause-resident : goal.find_behind-requires-clause-resident
find_behind-requires-clause-resident g c =
    let r = c.in_ok-make_ready.ensures.ready c.if-not-branch.false in
    subst (λ (m : Memory). IsResident m (c.args.first + c.args.c)) (sym r.1) r.0

pub returns-in-Some-clause-converts : goal.returns-in-Some-clause-converts
returns-in-Some-clause-converts g c = λ free keys es a w.
    let h = c.args.heap.now in
    let m = c.make_ready.new.memory in
    let same = (c.in_ok-make_ready.ensures.ready c.if-not-branch.false).1 in
    let s : Scene = scene h.space m h.marks c.args.queue.now free keys in
    let a1 : AgreesAt s es = subst (λ (x : Memory). AgreesAt (scene h.space x h.marks c.args.queue.now free keys) es) (sym same) a in
    let w1 : IsToRepair s es c.args.t c.args.object c.args.first c.args.c = subst
    (λ (x : Memory). IsToRepair (scene h.space x h.marks c.args.queue.now free keys) es c.args.t c.args.object
    c.args.first c.args.c) (sym same) w in
    let two = own_forwarded (view_of s.heap) (held_of s.heap.memory) (written_of s.heap.memory) s.queue s.free (IsKey s.keys) es c.args.t w1.n a1 w1.phase w1.is.claimed in
    let slots = c.slots_at-slots.ensures.slots es w1.n a1.lies w1.is.claimed.0 (omega (arith, two), w1.at) in
    let first = c.first_slot-from.ensures.first in
    let end = c.end_slot-to.ensures.end in
    let holds1 : Holds c.args.c (entry es w1.n).slots c.first_slot-from.result c.end_slot-to.result = holds c.args.c
    (entry es w1.n).slots c.first_slot-from.result c.end_slot-to.result (omega (arith, first, slots))
    (omega (arith, end, slots)) in
    let hit = c.in-Some.ensures.some in
    let x = hit.3 es w1.n (moved_here s es c.args.t c.args.object c.args.first c.args.c c.first_slot-from.result c.end_slot-to.result a1 w1 holds1 hit.0 hit.1 hit.2) in
    let lacks = lacks_here s es c.args.t c.args.object c.args.first c.args.c c.first_slot-from.result c.end_slot-to.result c.in-Some.u hit.0 x.0 a1 w1 holds1 hit.1 hit.2 x.1 x.2 x.3 in
    subst (λ (y : Memory). Converts c.args.t (step.Wait c.in-Some.u) (scene h.space y h.marks c.args.queue.now free keys) s es es) same (wait_converts s es c.args.t c.in-Some.u (inr lacks) a1)

pub repair_resident-requires-clause-agrees : goal.repair_resident-requires-clause-agrees
repair_resident-requires-clause-agrees g c =
    let q = c.requires.agrees in
    let h = c.args.heap.now in
    let m = c.make_ready.new.memory in
    let same = (c.in_ok-make_ready.ensures.ready c.if-not-branch.false).1 in
    let s : Scene = scene h.space m h.marks c.args.queue.now q.0 q.1 in
    let a1 : AgreesAt s q.2 = subst (λ (x : Memory). AgreesAt (scene h.space x h.marks c.args.queue.now q.0 q.1) q.2) (sym same) q.3 in
    let w1 : IsToRepair s q.2 c.args.t c.args.object c.args.first c.args.c = subst
    (λ (x : Memory). IsToRepair (scene h.space x h.marks c.args.queue.now q.0 q.1) q.2 c.args.t c.args.object
    c.args.first c.args.c) (sym same) q.4 in
    let two = own_forwarded (view_of s.heap) (held_of s.heap.memory) (written_of s.heap.memory) s.queue s.free (IsKey s.keys) q.2 c.args.t w1.n a1 w1.phase w1.is.claimed in
    let slots = c.slots_at-slots.ensures.slots q.2 w1.n a1.lies w1.is.claimed.0 (omega (arith, two), w1.at) in
    let first = c.first_slot-from.ensures.first in
    let end = c.end_slot-to.ensures.end in
    let holds1 : Holds c.args.c (entry q.2 w1.n).slots c.first_slot-from.result c.end_slot-to.result = holds c.args.c
    (entry q.2 w1.n).slots c.first_slot-from.result c.end_slot-to.result (omega (arith, first, slots))
    (omega (arith, end, slots)) in
    let lacks = lacks_none s q.2 c.args.t c.args.object c.args.first c.args.c c.first_slot-from.result c.end_slot-to.result a1 w1 holds1
    (λ k lo hi n m o r. c.in_default.ensures.none refl k lo hi q.2 n m o r)
    (λ n ln at moved. same_object (view_of s.heap) q.2 q.2 w1.n n c.args.object a1.lies a1.lies w1.is.claimed.0 ln w1.at at (omega (arith, two)) (omega (arith, moved))) in
    (q.0, q.1, q.2, a1, w1, lacks)

pub repair_resident-requires-clause-resident : goal.repair_resident-requires-clause-resident
repair_resident-requires-clause-resident g c =
    let r = c.in_ok-make_ready.ensures.ready c.if-not-branch.false in
    subst (λ (m : Memory). IsResident m (c.args.first + c.args.c)) (sym r.1) r.0

pub returns-clause-converts : goal.returns-clause-converts
returns-clause-converts g c = λ free keys es a w.
    let h = c.args.heap.now in
    let m = c.make_ready.new.memory in
    let same = (c.in_ok-make_ready.ensures.ready c.if-not-branch.false).1 in
    let s : Scene = scene h.space m h.marks c.args.queue.now free keys in
    let a1 : AgreesAt s es = subst (λ (x : Memory). AgreesAt (scene h.space x h.marks c.args.queue.now free keys) es) (sym same) a in
    let w1 : IsToRepair s es c.args.t c.args.object c.args.first c.args.c = subst
    (λ (x : Memory). IsToRepair (scene h.space x h.marks c.args.queue.now free keys) es c.args.t c.args.object
    c.args.first c.args.c) (sym same) w in
    let two = own_forwarded (view_of s.heap) (held_of s.heap.memory) (written_of s.heap.memory) s.queue s.free (IsKey s.keys) es c.args.t w1.n a1 w1.phase w1.is.claimed in
    let slots = c.slots_at-slots.ensures.slots es w1.n a1.lies w1.is.claimed.0 (omega (arith, two), w1.at) in
    let first = c.first_slot-from.ensures.first in
    let end = c.end_slot-to.ensures.end in
    let holds1 : Holds c.args.c (entry es w1.n).slots c.first_slot-from.result c.end_slot-to.result = holds c.args.c
    (entry es w1.n).slots c.first_slot-from.result c.end_slot-to.result (omega (arith, first, slots))
    (omega (arith, end, slots)) in
    let n = c.repair_resident.new in
    let lacks = lacks_none s es c.args.t c.args.object c.args.first c.args.c c.first_slot-from.result c.end_slot-to.result a1 w1 holds1
    (λ k lo hi n m o r. c.in_default.ensures.none refl k lo hi es n m o r)
    (λ n ln at moved. same_object (view_of s.heap) es es w1.n n c.args.object a1.lies a1.lies w1.is.claimed.0 ln w1.at at (omega (arith, two)) (omega (arith, moved))) in
    subst (λ (y : Memory). Converts c.args.t step.Repaired (scene h.space y h.marks c.args.queue.now free keys) (scene n.heap.space n.heap.memory n.heap.marks n.queue free keys) es es) same
    (c.repair_resident.ensures.converts free keys es a1 w1 lacks)
